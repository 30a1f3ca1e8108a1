-- `printout::list_bytes` meets its contract. Assumes nothing.
use mathlib.Core.Path.{◌≡◌, sym, ap, ◌∙◌}
use native.Mathlib.Omega.{arith}
use mathlib.Core.Bool.{false}
use lib.ListN.{length}
use lib.Seq.{length-take-le}
use Rattle.printout.specs.Split.{bad_input}
use Rattle.printout.specs.Outcome.{words_outcome}
use Rattle.printout.proofs.OutcomeLaws.{input_refused, input_taken, long_enough, short_enough, room_for, decoded}
use Rattle.printout.proofs.list_bytes.Goals as goal

pub returns-then-is_bad : goal.returns-then-is_bad
returns-then-is_bad g c =
    let b = c in
    input_refused b.args.bytes.now (sym b.is_bad.ensures ∙ c.if-is_bad.true)

pub decode-requires : goal.decode-requires
decode-requires g c =
    let taken : bad_input (length c.args.bytes.now) ≡ false = sym c.is_bad.ensures ∙ c.if-is_bad.false in
    let e = c in
    record { n_in_bounds = omega arith; n_in_bounds_2 = omega (arith, short_enough _ taken, c.space-room.ensures) }

pub slice_bounds-room-end : goal.slice_bounds-room-end
slice_bounds-room-end g c = room_for _ _ _ _ c.decode.ensures

pub slice_bounds-list_words-end : goal.slice_bounds-list_words-end
slice_bounds-list_words-end g c = sym (length-take-le _ _ (room_for _ _ _ _ c.decode.ensures))

pub list_words-requires : goal.list_words-requires
list_words-requires g c =
    let taken : bad_input (length c.args.bytes.now) ≡ false = sym c.is_bad.ensures ∙ c.if-is_bad.false in
    let d = c in
    rw (length-take-le _ _ (room_for _ _ _ _ d.decode.ensures)) (omega (arith, long_enough _ taken))

pub returns : goal.returns
returns g c =
    let taken : bad_input (length c.args.bytes.now) ≡ false = sym c.is_bad.ensures ∙ c.if-is_bad.false in
    let d = c in
    let e = d in
    input_taken e.args.bytes.now taken c.list_words.result (c.list_words.ensures ∙ ap words_outcome (decoded _ _ _ _ d.decode.ensures))
