-- `ranked::busiest::of_chamber` meets its contract. Assumes nothing.
use mathlib.Core.Path.{refl, ap}
use mathlib.Core.Bool.{not}
use native.Mathlib.Omega.{arith}
use Rattle.sheet.specs.Places.{points_of}
use Rattle.list.specs.Contractor.{mine}
use Rattle.ranked.specs.Ranks.{row_rank}
use Rattle.ranked.proofs.RanksLaws.{chamber_other, chamber_offered, chamber_idle, idle_row, rank_found, found_fits}
use Rattle.ranked.proofs.busiest.of_chamber.Goals as goal

pub returns-then-not-is_mine : goal.returns-then-not-is_mine
returns-then-not-is_mine c =
    chamber_other (mine c.args.terms.contractor c.args.owners.now) (row_rank c.args.largest c.args.terms (points_of c.args.p.words.now) (points_of c.args.q.words.now)) _ _ _ c.requires.5 _ c.is_mine.ensures (ap not c.if-not-is_mine.true)

pub returns-then-is_idle : goal.returns-then-is_idle
returns-then-is_idle c =
    let d = c.candidates in
    let idle = idle_row c.args.largest c.args.terms _ _ _ _ c.args.p.opens _ _ d.ensures (omega (arith, c.requires.2.enough, d.auto.bits)) _ _ _ c.is_idle.ensures in
    chamber_idle (mine c.args.terms.contractor c.args.owners.now) (row_rank c.args.largest c.args.terms (points_of c.args.p.words.now) (points_of c.args.q.words.now)) _ _ _ c.requires.5 _ c.is_mine.ensures (ap not c.if-not-is_mine.false) c.requires.3 c.requires.4 c.requires.6 _ idle c.if-is_idle.true

pub overflow_cast-v : goal.overflow_cast-v
overflow_cast-v c = omega (arith, found_fits _ _ _ _ _ _ c.keep_pairs-found.ensures c.args.p.opens.n_le)

pub returns : goal.returns
returns c =
    let v = rank_found c.args.largest c.args.terms _ _ _ _ c.args.p.opens _ _ _ c.keep_pairs-found.ensures _ _ c.id_at.ensures refl in
    chamber_offered (mine c.args.terms.contractor c.args.owners.now) (row_rank c.args.largest c.args.terms (points_of c.args.p.words.now) (points_of c.args.q.words.now)) _ _ _ c.requires.5 _ c.is_mine.ensures (ap not c.if-not-is_mine.false) _ v _ c.offered.ensures
