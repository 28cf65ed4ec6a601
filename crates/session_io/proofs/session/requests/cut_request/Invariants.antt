use Rattle.std.proofs.Common.{◌≡◌, List, ℕ, length}
use Rattle.client_state.specs.Session.{Session}
use Rattle.session_io.specs.declared.session.requests.Found.{Found}
use Rattle.session_io.specs.Finding.{gathering, Finds}
use Rattle.session_io.proofs.session.requests.cut_request.Given as goal

-- what is found in the rest is found in all
abbrev pub invariant-loop-found : goal.invariant-loop-found
invariant-loop-found l =
    let limit = l.fn.session.limit in
    (l.session ≡ gathering limit l.session.leased l.session.database l.session.gathered)
    × ((found : Found) (new : Session) (left : List ℕ)
    → Finds limit (gathering limit l.session.leased l.session.database l.session.gathered)
    l.cutter.bytes found new left
    → Finds limit l.fn.session l.fn.cutter.bytes found new left)
    × (l.cutter.limit ≡ limit)

-- each frame takes bytes
abbrev pub decreases-loop-found : goal.decreases-loop-found
decreases-loop-found l = length l.cutter.bytes
