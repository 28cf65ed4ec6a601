use Rattle.std.proofs.Common.{◌≡◌, ◌∙◌, ◌++◌, List, ℕ, take, drop, length, sym, ap, subst, take-append-drop}
use Rattle.std.proofs.lemmas.List.{length-take-le}
use Rattle.link_state.specs.Watched.{IsOther}
use Rattle.tracked_links.specs.Heard.{HearingState}
use Rattle.tracked_links.proofs.HearingLemmas.{heard_other}
use Rattle.tracked_links.proofs.hearing.Hearing.hear_front.Goals as goal

joined : (rest piece after : List ℕ) (n : ℕ) → piece ≡ take n rest → after ≡ drop n rest → rest ≡ piece ++ after
joined rest piece after n front back =
    sym (take-append-drop n rest) ∙ ap (λ (xs : List ℕ). xs ++ drop n rest) (sym front)
    ∙ ap (λ (xs : List ℕ). piece ++ xs) (sym back)

pub returns-then-other-gt0-clause-heard : goal.returns-then-other-gt0-clause-heard
returns-then-other-gt0-clause-heard c = (
  c.split_at.result.0.now,
  joined c.args.bytes.now c.split_at.result.0.now c.split_at.result.1.now c.other_len-other.result c.split_at.ensures.front c.split_at.ensures.back,
  λ before h. heard_other c.args.self.now c.other_len-other.result before c.args.bytes.now c.split_at.result.0.now c.split_at.result.1.now
      c.requires.going c.other_len-other.ensures.bytes
      (subst (λ (s : HearingState). IsOther s.left s.in_body c.other_len-other.result c.args.bytes.now) c.self.view_is (c.other_len-other.ensures.other c.if-other-gt0.true))
      (joined c.args.bytes.now c.split_at.result.0.now c.split_at.result.1.now c.other_len-other.result c.split_at.ensures.front c.split_at.ensures.back)
      (ap length c.split_at.ensures.front ∙ length-take-le c.other_len-other.result c.args.bytes.now c.other_len-other.ensures.within)
      h,
)

pub returns-clause-heard : goal.returns-clause-heard
returns-clause-heard c = (
  c.split_at-2.result.0.now,
  joined c.args.bytes.now c.split_at-2.result.0.now c.split_at-2.result.1.now c.piece_len.result c.split_at-2.ensures.front c.split_at-2.ensures.back,
  c.hear_piece.ensures.heard,
)
