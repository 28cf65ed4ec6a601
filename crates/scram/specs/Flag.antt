-- The gs2-header of a client's first message (RFC 5802, section 7), where no channel is bound and no
-- other authorization identity is asked for.
use Rattle.std.specs.Prelude.{ℕ, List, codes}
use Rattle.scram.specs.declared.flag.Gs2Flag.{Gs2Flag}
use Rattle.scram.specs.declared.flag.Gs2Flag.TheVariants.{Unsupported, Unadvertised}

-- the header: the flag, and an empty authzid
abbrev pub gs2_header : Gs2Flag → List ℕ
gs2_header Unsupported = codes "n,,"
gs2_header Unadvertised = codes "y,,"

-- the flag, and the comma after it
abbrev pub gs2_start : Gs2Flag → List ℕ
gs2_start Unsupported = codes "n,"
gs2_start Unadvertised = codes "y,"
