use Rattle.std.proofs.Common.{◌≡◌, inr, Ok, false, true, leb, map, unwrap_or, string_bytes, sym, ap, ◌∙◌}
use Rattle.std.specs.Option.{option_map}
use Rattle.indexmap.specs.IndexMap.{values}
use Rattle.ini_config.specs.Node.{NodeSettings, pool_total}
use Rattle.ini_config.specs.Settings.{node_given}
use Rattle.ini_config.specs.View.{given_seen, database_settings, links_of}
use Rattle.ini_config.proofs.Totals.{total-seen, defaults-seen, settings_given-within, settings_given-above}
use Rattle.ini_config.proofs.read.settings.Goals as goal

pub returns-then-not-links_fit : goal.returns-then-not-links_fit
returns-then-not-links_fit c =
    let addr = string_bytes c.in_ok-listen_addr.listen_addr in
    let total = total-seen (unwrap_or c.args.draft.keys.default_pool_size 20) c.args.draft.databases.entries ∙ ap (λ pool. links_of pool (values c.args.draft.databases)) (sym c.unwrap_or-default_pool_size.ensures) in
    let above : leb (pool_total (node_given (given_seen c.args.draft) addr)) 65535 ≡ false = ap (λ n. leb n 65535) total ∙ sym c.links_fit.ensures ∙ c.if-not-links_fit.true in
    inr (settings_given-above (given_seen c.args.draft) c.in_ok-ok_or.field-0 c.in_ok-ok_or-2.field-0 addr
    c.in_ok-ok_or.ensures.ok_part c.in_ok-ok_or-2.ensures.ok_part (ap (option_map string_bytes) c.in_ok-listen_addr.ensures.ok_part) above)

pub returns : goal.returns
returns c =
    let addr = string_bytes c.in_ok-listen_addr.listen_addr in
    let pool = c.unwrap_or-default_pool_size.ensures in
    let total = total-seen (unwrap_or c.args.draft.keys.default_pool_size 20) c.args.draft.databases.entries ∙ ap (λ p. links_of p (values c.args.draft.databases)) (sym pool) in
    let within : leb (pool_total (node_given (given_seen c.args.draft) addr)) 65535 ≡ true = ap (λ n. leb n 65535) total ∙ sym c.links_fit.ensures ∙ c.if-not-links_fit.false in
    let zero_peer : c.unwrap.result ≡ 0 = rw c.unwrap.ensures at c.new.ensures.value in
    let peer = sym (c.unwrap_or-2.ensures ∙ ap (unwrap_or c.args.draft.keys.peer_id) zero_peer) in
    let databases = defaults-seen (unwrap_or c.args.draft.keys.default_pool_size 20) c.args.draft.databases.entries ∙ ap (λ p. map (λ e. database_settings p (string_bytes e.0) e.1) c.args.draft.databases.entries) (sym pool) in
    settings_given-within (given_seen c.args.draft) c.in_ok-ok_or.field-0 c.in_ok-ok_or-2.field-0 addr
    c.in_ok-ok_or.ensures.ok_part c.in_ok-ok_or-2.ensures.ok_part (ap (option_map string_bytes) c.in_ok-listen_addr.ensures.ok_part) within
    ∙ ap (λ (s : NodeSettings). Ok s) (λ i. record { listen_addr = addr; listen_port = sym c.unwrap_or.ensures i; peer_id = peer i; default_pool_size = sym pool i; max_client_conn = sym c.unwrap_or-3.ensures i; databases = databases i; peers = (given_seen c.args.draft).peers })
