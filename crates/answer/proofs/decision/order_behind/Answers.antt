use Rattle.std.proofs.Common.{◌<◌, arith}
use Rattle.answer.specs.Decision.{has}
use Rattle.answer.proofs.CallLemmas.{cannot_hand_back, orders_by, reply_passed}
use Rattle.answer.proofs.decision.order_behind.Goals as goal

pub returns-in_err-hand_back : goal.returns-in_err-hand_back
returns-in_err-hand_back g c =
    let joined = c.all_come.new.caller in
    let before = c.requires.allowance in
    let cost = c.in_ok-all_come.ensures.allowance in
    let left : 0 < joined.allowance = omega (arith, before, cost) in
    let cannot = rw c.apart-order.ensures.ticket at c.in_err-hand_back.ensures.handed in
    reply_passed c.from_residual-in_err-hand_back.result c.in_err-hand_back.field-0.0 _ _
    c.from_residual-in_err-hand_back.ensures.1
    (cannot_hand_back c.args.clients.now c.args.key c.cancel.result (has c.args.held.now)
    (has c.all_come.new.held) c.args.caller.now joined c.cancel.new.caller c.hand_back.new.caller
    c.in_ok-all_come.ensures.came (c.cancel.ensures.counted.made left) cannot)

pub returns : goal.returns
returns g c =
    let joined = c.all_come.new.caller in
    let before = c.requires.allowance in
    let cost = c.in_ok-all_come.ensures.allowance in
    let left : 0 < joined.allowance = omega (arith, before, cost) in
    rw c.apart-order.ensures.order
    (orders_by c.args.clients.now c.args.key c.cancel.result (has c.args.held.now)
    (has c.all_come.new.held) c.args.caller.now joined c.cancel.new.caller c.hand_back.new.caller
    c.in_ok-all_come.ensures.came (c.cancel.ensures.counted.made left)
    c.in_ok-hand_back.ensures.handed)
