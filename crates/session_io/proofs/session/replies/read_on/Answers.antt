use Rattle.std.proofs.Common.{◌∙◌, refl, sym, ap, subst, [], Option}
use Rattle.pg_frames.specs.Passage.{Passage, after, fed}
use Rattle.pg_frames.specs.declared.error.FrameError.{FrameError}
use Rattle.pg_frames.specs.FrameText.{HasFault}
use Rattle.session_io.specs.declared.session.outcome.Stayed.TheVariants.{End}
use Rattle.session_io.proofs.ReadingLemmas.{none_found, untold_ends, faulty_ends, cut_ends, lost_ends, more_read}
use Rattle.session_io.proofs.session.replies.read_on.Goals as goal

pub returns-then-not-pass_on-clause-ends : goal.returns-then-not-pass_on-clause-ends
returns-then-not-pass_on-clause-ends g c =
    let told = c.if-not-pass_on.ensures.untold refl in (
      [],
      refl,
      (
        told.0,
        told.1,
        λ limit stream written out. untold_ends limit stream written c.args.place
            c.args.link.now.flow _ told.0 _
            c.withheld.ensures c.requires.dry told.2 (ap End c.nothing.ensures) out,
      ),
    )

pub returns-then-is_some-clause-ends : goal.returns-then-is_some-clause-ends
returns-then-is_some-clause-ends g c =
    let told = c.if-not-pass_on.ensures.told refl in
    let has = subst (λ (p : Passage). HasFault p.limit (after p) c.fault_of.result)
    c.pass_on.ensures.flow
    c.fault_of.ensures in (
      [],
      refl,
      (
        told.0,
        told.1,
        λ limit stream written out. faulty_ends limit stream written c.args.place
            c.args.link.now.flow
            c.fault_of.result _ told.0 _ _ c.withheld.ensures
            (sym c.is_some.ensures ∙ c.if-is_some.true) c.requires.dry has told.2 c.lost.ensures
            refl out,
      ),
    )

pub returns-then-read_more-clause-more : goal.returns-then-read_more-clause-more
returns-then-read_more-clause-more g c _ =
    let told = c.if-not-pass_on.ensures.told refl in
    let read = c.if-read_more.ensures.more refl in (
      read.0,
      read.1,
      (
        told.0,
        told.1,
        (
          read.2,
          read.3,
          _,
          told.2,
          λ limit stream written out. more_read limit stream written c.args.place
              c.args.link.now.flow _ _
              read.2 c.withheld.ensures
              (read.4 ∙ ap (λ p. fed p read.2) c.pass_on.ensures.flow) out,
        ),
      ),
    )

pub returns-then-read_more-clause-sound : goal.returns-then-read_more-clause-sound
returns-then-read_more-clause-sound g c _ =
    let has = subst (λ (p : Passage). HasFault p.limit (after p) c.fault_of.result)
    c.pass_on.ensures.flow
    c.fault_of.ensures in
    subst (λ (f : Option FrameError). HasFault c.args.link.now.flow.limit
    (after c.args.link.now.flow) f)
    (none_found c.fault_of.result (sym c.is_some.ensures ∙ c.if-is_some.false)) has

pub returns-in-Inside-clause-ends : goal.returns-in-Inside-clause-ends
returns-in-Inside-clause-ends g c =
    let told = c.if-not-pass_on.ensures.told refl in
    let read = c.if-read_more.ensures.none refl in (
      _,
      read.1,
      (
        told.0,
        told.1,
        λ limit stream written out. cut_ends limit stream written c.args.place c.args.link.now.flow
            _ read.0
            told.0 _ c.in-Inside.is c.withheld.ensures c.requires.dry told.2 read.2
            (ap End c.nothing-in-Inside.ensures) out,
      ),
    )

pub returns-in_default-clause-ends : goal.returns-in_default-clause-ends
returns-in_default-clause-ends g c =
    let told = c.if-not-pass_on.ensures.told refl in
    let read = c.if-read_more.ensures.none refl in
    let has = subst (λ (p : Passage). HasFault p.limit (after p) c.fault_of.result)
    c.pass_on.ensures.flow
    c.fault_of.ensures in (
      _,
      read.1,
      (
        told.0,
        told.1,
        λ limit stream written out. lost_ends limit stream written c.args.place c.args.link.now.flow
            c.fault_of.result _ read.0 told.0 _ _ c.in_default.not-Inside c.withheld.ensures
            (sym c.is_some.ensures ∙ c.if-is_some.false) has c.requires.dry told.2 read.2
            c.lost-in_default.ensures refl out,
      ),
    )
