-- A restart of a node in a running process (own). `boot_after`: the next boot number, none after
-- the last. `RestartsAt`: one counted step with it.
use Rattle.std.specs.Prelude.{ℕ, ◌≡◌, ◌+◌, ◌%◌, ◌^◌, Option, Some, None, if◌then◌else◌, nat_eq}
use Rattle.link_pool.specs.declared.replies.RestartReply.{RestartReply}
use Rattle.link_pool.specs.declared.replies.RestartReply.TheVariants.{Restarted, Exhausted}
use Rattle.node_core.specs.declared.exchange.Exchange.TheVariants as step
use Rattle.locked_node.specs.Lock.{CallerView, Counted}

-- the boot after this one: a process has 2^32 of them, and the operator gives it the first
abbrev pub boot_after : ℕ → Option ℕ
boot_after boot = if nat_eq ((boot + 1) % 2 ^ 32) 0 then None else Some (boot + 1)

-- the node's boot by this reply
abbrev pub boot_by : RestartReply → ℕ → ℕ → ℕ
boot_by Restarted old next = next
boot_by Exhausted old next = old

-- A node was started anew with its next boot, in one counted step; or no boot is left, and nothing
-- changed.
abbrev pub RestartsAt : Option ℕ → ℕ → CallerView → RestartReply → ℕ → CallerView → Type 0
RestartsAt None boot old reply now new = (reply ≡ Exhausted) × (now ≡ boot) × (new ≡ old)
RestartsAt (Some next) boot old reply now new =
    Counted (step.Restart next reply) reply Exhausted old new × (now ≡ boot_by reply boot next)
