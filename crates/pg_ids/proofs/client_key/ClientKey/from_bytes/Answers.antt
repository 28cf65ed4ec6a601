use Rattle.std.proofs.Common.{rules, ◌≡◌, ◌∙◌, ◌/◌, ◌%◌, ap}
use Rattle.byteorder.specs.Endian.{big_bytes}
use Rattle.pg_ids.specs.Key.{number_of}
use Rattle.pg_ids.proofs.KeyLemmas.{joined, bytes_again}
use Rattle.pg_ids.proofs.client_key.ClientKey.from_bytes.Goals as goal

pub returns-clause-found : goal.returns-clause-found
returns-clause-found c =
    let n = c.read_u64-number.result in
    let peer : c.unwrap.result ≡ n / 1125899906842624 = rw c.unwrap.ensures at c.new.ensures.value in
    let hops : c.unwrap-2.result ≡ n % 4 = rw c.unwrap-2.ensures at c.new-2.ensures.value in
    let same : number_of record { peer = c.unwrap.result; slot = n / 17179869184 % 65536; secret = n / 4 % 4294967296; hops = c.unwrap-2.result } ≡ n = rw (peer, hops) (joined n) in
    ap (big_bytes 8) same ∙ bytes_again c.args.bytes n (search rules) (search rules) c.read_u64-number.ensures
