-- `join::with_chamber` meets its contract: the lent words are the filter walk's, and as many as before. Assumes nothing.
use mathlib.Core.Path.{sym, ◌∙◌}
use native.Mathlib.Omega.{arith}
use Rattle.walk.proofs.FilterCode.{still_holds}
use Rattle.join.proofs.CallLaws.{words_are, keeps_few, join_spot_fits}
use Rattle.join.proofs.ThresholdLaws.{chamber_full, chamber_shut, chamber_shown}
use Rattle.join.proofs.KindLaws.{by_agrees, by_opened, by_chamber, walks_few}
use Rattle.join.proofs.with_chamber.Goals as goal

pub kept_by-opened-requires : goal.kept_by-opened-requires
kept_by-opened-requires c =
    let s = c in
    (join_spot_fits s.args.q.opens _ _ s.requires.0 c.spot_at-z.ensures, s.requires.2)

pub overflow_add-r : goal.overflow_add-r
overflow_add-r c =
    let k = c in
    let s = k in
    omega (arith, s.requires.3, keeps_few s.args.p.opens _ _ _ _ k.kept_by-opened.ensures.1)

pub with_partners-requires : goal.with_partners-requires
with_partners-requires c =
    let k = c in
    let s = k in
    let long = k.kept_by-opened.auto.bits in
    let still = still_holds _ _ _ long s.requires.2 in
    (s.requires.0, s.requires.1, still, omega (arith, s.requires.3, keeps_few s.args.p.opens _ _ _ _ k.kept_by-opened.ensures.1), s.requires.4, by_agrees s.args.p.opens s.args.q.opens _ s.requires.4 _ s.requires.0 _ still.enough (words_are _ _ _ _ k.spot_at-z.ensures _ _ _ long k.kept_by-opened.ensures.0) _ c.start_for-from.ensures)

pub returns-then-t-eq0 : goal.returns-then-t-eq0
returns-then-t-eq0 c =
    let w = c in
    let k = c in
    let s = k in
    chamber_full _ _ _ _ _ _ _ (sym w.wide-t.ensures ∙ c.if-t-eq0.true) _ (by_chamber s.args.p.opens s.args.q.opens _ s.requires.4 _ _ k.spot_at-z.ensures _ _ k.kept_by-opened.auto.bits s.requires.2.enough _ _ _ _ _ k.kept_by-opened.ensures.1 c.with_partners.ensures)

pub overflow_add-r-2 : goal.overflow_add-r-2
overflow_add-r-2 c =
    let g = c in
    let k = g in
    let s = k in
    omega (arith, s.requires.3, keeps_few s.args.p.opens _ _ _ _ k.kept_by-opened.ensures.1, walks_few s.args.p.opens s.args.q.opens _ s.requires.4 _ (still_holds s.args.bits.now k.kept_by-opened.new.bits _ k.kept_by-opened.auto.bits s.requires.2).enough _ _ g.keep_clear-s.ensures.2)

pub returns-then-s-t : goal.returns-then-s-t
returns-then-s-t c =
    let g = c in
    let w = g in
    let k = g in
    let s = k in
    chamber_shut s.args.ask.terms s.args.p.words.now s.args.q.words.now s.args.ask.key s.args.ask.size s.args.p.n s.args.ask.terms.threshold s.args.j _ (λ z. g.if-t-eq0.false (w.wide-t.ensures ∙ z)) _ _ k.kept_by-opened.auto.bits _ (by_opened s.args.p.opens s.args.q.opens s.args.ask.terms s.requires.4 _ s.requires.2.enough _ _ k.spot_at-z.ensures _ k.kept_by-opened.ensures.1) _ g.keep_clear-s.ensures.2 _ g.keep_clear-s.ensures.1 (omega (arith, w.wide-t.ensures, c.if-s-t.true))

pub returns : goal.returns
returns c =
    let g = c in
    let w = g in
    let k = g in
    let s = k in
    chamber_shown s.args.ask.terms s.args.p.words.now s.args.q.words.now s.args.ask.key s.args.ask.size s.args.p.n s.args.ask.terms.threshold s.args.j _ (λ z. g.if-t-eq0.false (w.wide-t.ensures ∙ z)) _ _ k.kept_by-opened.auto.bits _ (by_opened s.args.p.opens s.args.q.opens s.args.ask.terms s.requires.4 _ s.requires.2.enough _ _ k.spot_at-z.ensures _ k.kept_by-opened.ensures.1) _ g.keep_clear-s.ensures.2 _ g.keep_clear-s.ensures.1 (omega (arith, w.wide-t.ensures, c.if-s-t.false)) _ g.keep_clear-s.ensures.0 _ c.with_kept.ensures
