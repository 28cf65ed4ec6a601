use Rattle.world.proofs.ServerOf.{settings_found, no_settings, no_database, server_found, server_there, if_none}
use Rattle.world.proofs.Starting.{one_server}
use Rattle.world.proofs.servers.server_of.Goals as goal

pub returns-in_err-settings-clause-none : goal.returns-in_err-settings-clause-none
returns-in_err-settings-clause-none c =
    if_none _ (no_settings c.args.group.now c.nodes-nodes.result.now c.args.node c.args.database c.nodes-nodes.ensures.nodes c.in_err-settings.ensures)

pub returns-in_err-entry-clause-none : goal.returns-in_err-entry-clause-none
returns-in_err-entry-clause-none c =
    if_none _ (no_database c.args.group.now c.nodes-nodes.result.now c.args.node c.args.database c.in_ok-settings.field-0 c.index-nodes-branch.result
    c.nodes-nodes.ensures.nodes c.nodes-nodes.ensures.group
    (settings_found c.nodes-nodes.result.now c.args.node c.in_ok-settings.field-0 c.index-nodes-branch.result c.in_ok-settings.ensures c.index-nodes-branch.is)
    c.in_err-entry.ensures.entry)

pub returns-clause-found : goal.returns-clause-found
returns-clause-found c =
    server_found c.args.group.now c.nodes-nodes.result.now c.args.node c.args.database c.in_ok-settings.field-0 c.index-nodes-branch.result
    _ c.first_on.result
    c.nodes-nodes.ensures.nodes
    (settings_found c.nodes-nodes.result.now c.args.node c.in_ok-settings.field-0 c.index-nodes-branch.result c.in_ok-settings.ensures c.index-nodes-branch.is)
    c.in_ok-entry.ensures.entry c.first_on.ensures

pub returns-clause-none : goal.returns-clause-none
returns-clause-none c =
    server_there _ c.nodes-nodes.result.now c.args.node c.args.database c.in_ok-settings.field-0 c.index-nodes-branch.result
    _ c.first_on.result
    (settings_found c.nodes-nodes.result.now c.args.node c.in_ok-settings.field-0 c.index-nodes-branch.result c.in_ok-settings.ensures c.index-nodes-branch.is)
    c.in_ok-entry.ensures.entry c.first_on.ensures

pub returns-in_err-settings-clause-one : goal.returns-in_err-settings-clause-one
returns-in_err-settings-clause-one c = λ a b x y.
    one_server c.args.group.now c.nodes-nodes.ensures.group.distinct c.args.node c.args.database a b x y

pub returns-in_err-entry-clause-one : goal.returns-in_err-entry-clause-one
returns-in_err-entry-clause-one c = λ a b x y.
    one_server c.args.group.now c.nodes-nodes.ensures.group.distinct c.args.node c.args.database a b x y

pub returns-clause-one : goal.returns-clause-one
returns-clause-one c = λ a b x y.
    one_server c.args.group.now c.nodes-nodes.ensures.group.distinct c.args.node c.args.database a b x y
