use Rattle.std.proofs.Common.{◌≡◌, leb, not, codes, string_bytes, sym, ap, ◌∙◌, unwrap_or, []}
use Rattle.indexmap.specs.IndexMap.{values}
use Rattle.ini_config.specs.Node.{pool_total}
use Rattle.ini_config.specs.Settings.{node_given}
use Rattle.ini_config.specs.View.{given_seen, links_of}
use Rattle.ini_config.proofs.Surveys.{missing_is, none_is, none_mapped, told_all}
use Rattle.ini_config.proofs.Totals.{total-seen}
use Rattle.ini_config.proofs.faults.whole_faults.Goals as goal

pub returns : goal.returns
returns c =
    let draft = c.args.draft.now in
    let total = total-seen (unwrap_or draft.keys.default_pool_size 20) draft.databases.entries
    ∙ ap (λ pool. links_of pool (values draft.databases)) (sym c.unwrap_or.ensures) in
    told_all _ _ _ _ _ _ _ _ (not c.links_fit-links.result) _ _ _ _ c.new-found.ensures.items
    c.in_ok-tell.ensures c.in_ok-tell-2.ensures c.in_ok-tell-3.ensures c.in_ok-tell-4.ensures
    (missing_is (codes "pool_mode") c.args.taken.now draft.keys.pool_mode _ _ (none_is _ _ c.is_none.ensures)
    c.is_missing-pool_mode.ensures)
    (missing_is (codes "auth_type") c.args.taken.now draft.keys.auth_type _ _ (none_is _ _ c.is_none-2.ensures)
    c.is_missing-auth_type.ensures)
    (missing_is (codes "listen_addr") c.args.taken.now _ _ _
    (none_is _ _ c.is_none-3.ensures ∙ none_mapped string_bytes draft.keys.listen_addr)
    c.is_missing-listen_addr.ensures)
    (ap not (c.links_fit-links.ensures ∙ ap (λ n. leb n 65535) (sym total)))
