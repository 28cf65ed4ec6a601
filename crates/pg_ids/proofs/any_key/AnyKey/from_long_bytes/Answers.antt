use Rattle.std.proofs.Common.{rules, ◌≡◌, ◌++◌, ◌∙◌, List, ℕ, ap, length, take, drop, arith, length-drop}
use Rattle.std.proofs.lemmas.List.{take-append-drop, take_all}
use Rattle.pg_ids.specs.Key.{key_bytes}
use Rattle.pg_ids.specs.AnyKey.{long_part_bytes}
use Rattle.pg_ids.specs.declared.any_key.KeyBytes.TheVariants as bytes
use Rattle.pg_ids.proofs.AnyKeyLemmas.{only_long}
use Rattle.pg_ids.proofs.any_key.AnyKey.from_long_bytes.Goals as goal

-- what is behind the first eight bytes
behind : (c : goal.After-from_bytes-2) → c.copy_from_slice-2.new.self ≡ drop 8 c.args.bytes
behind c =
    let len : length c.args.bytes ≡ 24 = search rules in
    c.copy_from_slice-2.ensures.after ∙ take_all 16 (drop 8 c.args.bytes) (omega (arith, len, length-drop 8 c.args.bytes))

pub returns-clause-found : goal.returns-clause-found
returns-clause-found c =
    let front : key_bytes c.from_bytes.result ≡ take 8 c.args.bytes = c.from_bytes.ensures.found ∙ c.copy_from_slice.ensures.after in
    let back : long_part_bytes c.from_bytes-2.result ≡ drop 8 c.args.bytes = c.from_bytes-2.ensures.found ∙ behind c in
    ap bytes.Long (ap (λ (xs : List ℕ). xs ++ long_part_bytes c.from_bytes-2.result) front ∙ ap (λ (xs : List ℕ). take 8 c.args.bytes ++ xs) back ∙ take-append-drop 8 c.args.bytes)

pub returns-clause-only : goal.returns-clause-only
returns-clause-only c =
    only_long c.args.bytes c.copy_from_slice.new.self c.copy_from_slice-2.new.self c.from_bytes.result c.from_bytes-2.result c.copy_from_slice.ensures.after (behind c) c.from_bytes.ensures.only c.from_bytes-2.ensures.only
