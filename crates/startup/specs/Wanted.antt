-- How much of a first packet is read (own): its header first, and then the rest of it, but for the
-- last byte of a CancelRequest, which is only looked at. So nothing behind a packet is read, and a
-- CancelRequest that isn't settled is never read whole.
use Rattle.std.specs.Prelude.{ℕ, ◌≡◌, ◌+◌, ◌-◌, ◌<◌, ◌≤◌, ◌⊎◌, List, length}
use Rattle.startup.specs.Packet.{cancel_code}
use Rattle.startup.specs.FirstPacket.{length_of, code_of}
use Rattle.startup.specs.declared.wanted.Wanted.{Wanted}
use Rattle.startup.specs.declared.wanted.Wanted.TheVariants.{Read, Look}

-- the header of a CancelRequest, of either length
pub record IsCancel (text : List ℕ) : Type 0 where
  pub stands : 8 ≤ length text
  pub coded : code_of text ≡ cancel_code
  pub measured : (length_of text ≡ 16) ⊎ (length_of text ≡ 32)

-- all of a CancelRequest stands but its last byte
abbrev pub LacksLast : List ℕ → Type 0
LacksLast text = IsCancel text × (length text + 1 ≡ length_of text)

-- how far a packet is read of which these bytes stand: to the end of its header; before the last
-- byte of a CancelRequest; to the end of any other
abbrev pub IsReadTo : List ℕ → ℕ → Type 0
IsReadTo text end =
    ((length text < 8) × (end ≡ 8))
    ⊎ (IsCancel text × (end + 1 ≡ length_of text))
    ⊎ ((8 ≤ length text) × (IsCancel text → ⊥) × (end ≡ length_of text))

-- what is wanted next behind these bytes: so many bytes at most, or a look at the last one
abbrev pub Wants : List ℕ → Wanted → Type 0
Wants text (Read count) =
    (end : ℕ) × IsReadTo text end × (count ≡ end - length text) × (LacksLast text → ⊥)
Wants text Look = LacksLast text

-- Of a packet, no more stands than may be read: nothing behind its header but what its length field
-- says, and not the last byte of a CancelRequest.
pub record IsWithin (text : List ℕ) : Type 0 where
  pub packet : (length text ≤ 8) ⊎ (length text ≤ length_of text)
  pub cancel : IsCancel text → length text < length_of text
