-- What a run's answer, and the slots and the lent words after it, mean, from the definitions alone.
--     run_served, run_call_sixteen      with two sheets that open, a leaf of Q and enough words, 16 is the number exactly where the pairs outnumber the slots,
--                                       and else the run is given
--     run_call_short               with two sheets that open and a leaf of Q, 24 is the number exactly where fewer words are lent than sixteen kept sets need
--     run_first, run_rest          the pairs stand in the first slots, and the rest of the slice is not touched
--     run_zeros, run_untouched     zeros stand in the words that the run needs, and those past them are not touched
--     run_refused_lem                  a refusal leaves the slots and the words as they stood
--     run_long, run_words_long     the slices are as long as they were
-- That the pairs of all leaves are the list, each once, is `run_listed`, `run_holds`, `run_once` and `listed_run` of `leaf`.
-- Assumes nothing.
use mathlib.Core.Path.{◌≡◌, refl, sym, ap, ◌∙◌}
use mathlib.Core.Bool.{Bool, true, false, cond}
use mathlib.Core.Logic.{◌↔◌}
use mathlib.Core.List.{List, ◌++◌}
use Prim.Native.Nat.{ℕ, ◌≤◌, ◌<◌}
use native.Mathlib.Omega.{arith}
use lib.Dec.{eqb, ltb}
use lib.IntN.{ℤ}
use lib.ListN.{length, take, drop, replicate, length-append, length-drop, length-replicate}
use lib.Seq.{take-append_seam, drop-append_seam, take_at, drop_at}
use borrow.Author.Tests.{eqb-true, eqb-false, lt-ltb, le-ltb, ltb-true, ltb-false}
use Rattle.words.specs.First.{given}
use Rattle.words.proofs.FirstLaws.{none_applies, given_failed, answer_given, answer_refused}
use Rattle.bits.specs.Set.{wiped}
use Rattle.list.specs.declared.Pair.{Pair}
use Rattle.leaf.specs.LeafRun.{leaf_list}
use Rattle.ring.specs.Numbers.{sheets_no}
use Rattle.ring.specs.Lent.{bits_no}
use Rattle.ring.proofs.LentLaws.{wiped_refused, wiped_given}
use Rattle.runs.specs.Run.{leaf_no, room_no, run_need, run_no, run_slots, run_bits}
use Rattle.runs.proofs.WriteLaws.{run_fits}
use Rattle.runs.proofs.DecideLaws.{run_passes, run_lacks}

-- ---- "then 16 exactly when the pairs outnumber the slots"

module _ (P Q : List ℤ) (v len bits : ℕ) (sheets : sheets_no P Q ≡ 0) (leaf : leaf_no Q v ≡ 0) where
  module _ (lent : run_need P ≤ bits) where
    pub run_served : length (leaf_list P Q v) ≤ len → run_no P Q v len bits ≡ 0
    unfolding room_no given
    run_served h = run_passes P Q v len bits sheets leaf lent ∙ rw (le-ltb len (length (leaf_list P Q v)) h)

    pub run_call_sixteen : (run_no P Q v len bits ≡ 16) ↔ (len < length (leaf_list P Q v))
    unfolding room_no given
    run_call_sixteen = (
      λ e. outnumber (ltb len (length (leaf_list P Q v))) refl (sym (run_passes P Q v len bits sheets leaf lent) ∙ e),
      λ h. run_passes P Q v len bits sheets leaf lent ∙ rw (lt-ltb len (length (leaf_list P Q v)) h),
    )
      where
        outnumber : (t : Bool) → ltb len (length (leaf_list P Q v)) ≡ t → ◌≡◌ {A = ℕ} (cond t 16 0) 16 → len < length (leaf_list P Q v)
        outnumber true t e = ltb-true len (length (leaf_list P Q v)) t
        outnumber false t e = absurd (omega (arith, e))

  -- 24 "bit slice too short"
  room_other : room_no (leaf_list P Q v) len ≡ 24 → ⊥
  unfolding room_no given
  room_other e = go (ltb len (length (leaf_list P Q v))) e
    where
      go : (t : Bool) → ◌≡◌ {A = ℕ} (cond t 16 0) 24 → ⊥
      go true e = omega (arith, e)
      go false e = omega (arith, e)

  pub run_call_short : (run_no P Q v len bits ≡ 24) ↔ (bits < run_need P)
  run_call_short = (λ e. fewer (ltb bits (run_need P)) refl e, run_lacks P Q v len bits sheets leaf)
    where
      fewer : (t : Bool) → ltb bits (run_need P) ≡ t → run_no P Q v len bits ≡ 24 → bits < run_need P
      fewer true t e = ltb-true bits (run_need P) t
      fewer false t e = absurd (room_other (sym (run_passes P Q v len bits sheets leaf (ltb-false bits (run_need P) t)) ∙ e))

-- ---- the slots and the words after a run

module _ (P Q : List ℤ) (v : ℕ) (s : List Pair) (ws : List ℕ) where
  abbrev no : ℕ
  no = run_no P Q v (length s) (length ws)

  slots_given : no ≡ 0 → run_slots P Q v s (length ws) ≡ leaf_list P Q v ++ drop (length (leaf_list P Q v)) s
  unfolding run_slots
  slots_given z = answer_given _ (λ k. s) _ z

  -- the pairs stand in the first slots ..
  pub run_first : no ≡ 0 → take (length (leaf_list P Q v)) (run_slots P Q v s (length ws)) ≡ leaf_list P Q v
  run_first z = ap (take (length (leaf_list P Q v))) (slots_given z) ∙ take-append_seam (leaf_list P Q v) _

  -- .. and "the rest of the slice isn't touched"
  pub run_rest : no ≡ 0 → drop (length (leaf_list P Q v)) (run_slots P Q v s (length ws)) ≡ drop (length (leaf_list P Q v)) s
  run_rest z = ap (drop (length (leaf_list P Q v))) (slots_given z) ∙ drop-append_seam (leaf_list P Q v) _

  words_given : no ≡ 0 → run_bits P Q v (length s) ws ≡ replicate (run_need P) 0 ++ drop (run_need P) ws
  unfolding run_bits wiped
  words_given z = sym (wiped_given ws (run_need P) _ z)

  -- any other call than a filter walk leaves zeros in the words that it needs ..
  pub run_zeros : no ≡ 0 → take (run_need P) (run_bits P Q v (length s) ws) ≡ replicate (run_need P) 0
  run_zeros z = ap (take (run_need P)) (words_given z) ∙ take_at (replicate (run_need P) 0) _ (run_need P) (length-replicate (run_need P) 0)

  -- a refusal "leaves lent memory [..] as they stood"
  slots_stand : (no ≡ 0 → ⊥) → run_slots P Q v s (length ws) ≡ s
  unfolding run_slots
  slots_stand ne = answer_refused _ (λ k. s) _ _ refl ne

  words_stand : (no ≡ 0 → ⊥) → run_bits P Q v (length s) ws ≡ ws
  unfolding run_bits
  words_stand ne = sym (wiped_refused ws (run_need P) _ _ refl ne)

  pub run_refused_lem : (no ≡ 0 → ⊥) → (run_slots P Q v s (length ws) ≡ s) × (run_bits P Q v (length s) ws ≡ ws)
  run_refused_lem ne = (slots_stand ne, words_stand ne)

  -- .. "and none touches words past them"
  pub run_untouched : drop (run_need P) (run_bits P Q v (length s) ws) ≡ drop (run_need P) ws
  run_untouched = go (eqb no 0) refl
    where
      go : (t : Bool) → eqb no 0 ≡ t → drop (run_need P) (run_bits P Q v (length s) ws) ≡ drop (run_need P) ws
      go true t = ap (drop (run_need P)) (words_given (eqb-true no 0 t)) ∙ drop_at (replicate (run_need P) 0) _ (run_need P) (length-replicate (run_need P) 0)
      go false t = ap (drop (run_need P)) (words_stand (eqb-false no 0 t))

  pub run_long : length (run_slots P Q v s (length ws)) ≡ length s
  run_long = go (eqb no 0) refl
    where
      go : (t : Bool) → eqb no 0 ≡ t → length (run_slots P Q v s (length ws)) ≡ length s
      go true t =
          let z = eqb-true no 0 t in
          ap length (slots_given z) ∙ length-append (leaf_list P Q v) _ ∙ omega (arith, length-drop (length (leaf_list P Q v)) s, run_fits P Q v (length s) (length ws) z)
      go false t = ap length (slots_stand (eqb-false no 0 t))

  -- a run that is given was lent enough words
  enough_lent : no ≡ 0 → run_need P ≤ length ws
  unfolding run_no bits_no
  enough_lent z = ltb-false (length ws) (run_need P) (given_failed _ ((none_applies _).0 z 3))

  pub run_words_long : length (run_bits P Q v (length s) ws) ≡ length ws
  run_words_long = go (eqb no 0) refl
    where
      go : (t : Bool) → eqb no 0 ≡ t → length (run_bits P Q v (length s) ws) ≡ length ws
      go true t =
          let z = eqb-true no 0 t in
          ap length (words_given z) ∙ length-append (replicate (run_need P) 0) _ ∙ omega (arith, length-replicate {A = ℕ} (run_need P) 0, length-drop (run_need P) ws, enough_lent z)
      go false t = ap length (words_stand (eqb-false no 0 t))
