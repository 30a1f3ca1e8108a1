-- Request 14: "For a half day's crew, give in order the k pairs with the smallest squared size, ties by q id and then p id, k from 1 to 16, fewer if the list is shorter."
-- For every two sheets that open, every k from 1 to 16 and as many words lent as the points of P need, and in terms of what the shipped call answers for them.
-- `Before v w` of shortest/specs/Order: by squared size, then q id, then p id. `pairs_of P Q` is the list: `ring_list` of the points of both sheets, of which
-- Demand2 speaks.
--
--     shortest_given     the call is served, and gives k pairs, or all where the list is shorter; unused ones are three zeros
--     shortest_listed    each is a pair of the list
--     shortest_order     each stands before those given after it.  given_once: so none is given twice
--     shortest_first     and before each pair of the list that is not given: no pair that was left out is shorter than one that was given
--     shortest_by_points     sheets with the same points give the same answer
-- Assumes nothing.
use mathlib.Core.Path.{◌≡◌, sym, ap, subst, ◌∙◌}
use mathlib.Core.List.{List, Memᴰ}
use Prim.Native.Nat.{ℕ, min, ◌-◌, ◌≤◌, ◌<◌}
use native.Mathlib.Omega.{arith}
use lib.IntN.{ℤ}
use lib.ListN.{length, take, drop, get_or, replicate, get_or-append}
use lib.Seq.{take-append_seam, drop-append_seam}
use Rattle.sheet.specs.Places.{points_of}
use Rattle.sheet.proofs.SheetLaws.{sheet_facts}
use Rattle.list.specs.declared.Pair.{Pair}
use Rattle.list.specs.Pairs.{start, none}
use Rattle.list.specs.Pages.{padded}
use Rattle.list.specs.RingList.{ring_list}
use Rattle.ring.specs.Lent.{need}
use Rattle.shortest.specs.declared.Shortlist.{Shortlist}
use Rattle.shortest.specs.Order.{shortest_of, Before}
use Rattle.shortest.specs.Answer.{pairs_of, short_given}
use Rattle.shortest.proofs.SearchLaws.{pairs_ascend}
use Rattle.shortest.proofs.AnswerLaws.{short_answered, served}
use Rattle.shortest.proofs.Meaning as of-shortest
use Rattle.demands.specs.Promises.{ShortAnswers}
use Rattle.demands.proofs.Demand2.{WellFormed, sheets}

module _ (P Q : List ℤ) (p_opens : WellFormed P) (q_opens : WellFormed Q) (k : ℕ) (some : 1 ≤ k) (most : k ≤ 16) (ws : List ℕ) (enough : need P ≤ length ws) (r : Shortlist) (ws' : List ℕ) (a : ShortAnswers P Q k ws r ws') where
  is : r ≡ short_given P Q k
  is = a.promised.0 ∙ short_answered P Q k (length ws) (served P Q k (length ws) (sheets P Q p_opens q_opens) some most enough)

  -- the pairs given
  abbrev pub given : List Pair
  given = take r.count r.pairs

  count_is : r.count ≡ length (shortest_of k (pairs_of P Q))
  unfolding short_given
  count_is = ap (λ (x : Shortlist). x.count) is

  pairs_are : r.pairs ≡ padded (shortest_of k (pairs_of P Q))
  unfolding short_given
  pairs_are = ap (λ (x : Shortlist). x.pairs) is

  given_are : given ≡ shortest_of k (pairs_of P Q)
  unfolding padded
  given_are = (λ t. take (count_is t) (pairs_are t)) ∙ take-append_seam (shortest_of k (pairs_of P Q)) _

  at_is : (b : ℕ) → b < r.count → get_or r.pairs b none ≡ get_or (shortest_of k (pairs_of P Q)) b none
  unfolding padded
  at_is b h = ap (λ (t : List Pair). get_or t b none) pairs_are ∙ get_or-append (shortest_of k (pairs_of P Q)) _ none b (omega (arith, count_is))

  -- "k from 1 to 16, fewer if the list is shorter"; "Unused pairs are three zeros" [H3, H4]
  pub shortest_given : (r.number ≡ 0) × (r.count ≡ min k (length (pairs_of P Q))) × (drop r.count r.pairs ≡ replicate (16 - r.count) none)
  unfolding short_given padded
  shortest_given = (
    ap (λ (x : Shortlist). x.number) is,
    count_is ∙ of-shortest.shortest_count k (pairs_of P Q),
    (λ t. drop (count_is t) (pairs_are t)) ∙ drop-append_seam (shortest_of k (pairs_of P Q)) _ ∙ ap (λ (n : ℕ). replicate (16 - n) none) (sym count_is),
  )

  -- "the k pairs": of the list [H1]
  pub shortest_listed : (v : Pair) → Memᴰ v given → Memᴰ v (pairs_of P Q)
  shortest_listed v m = of-shortest.shortest_only k (pairs_of P Q) v (subst (Memᴰ v) given_are m)

  -- "in order", "ties by q id and then p id" [H1, H2]
  pub shortest_order : (b c : ℕ) → b < c → c < r.count → Before (get_or r.pairs b none) (get_or r.pairs c none)
  shortest_order b c h g =
      let asc = pairs_ascend (sheet_facts P p_opens) (sheet_facts Q q_opens) in
      rw (at_is b (omega arith), at_is c g) (of-shortest.shorter_before _ _ (of-shortest.shortest_rises k (pairs_of P Q) start asc b c h (omega (arith, count_is))))

  -- [H1]
  pub given_once : (b c : ℕ) → b < c → c < r.count → get_or r.pairs b none ≡ get_or r.pairs c none → ⊥
  given_once b c h g e = of-shortest.not_before (get_or r.pairs c none) (subst (λ (v : Pair). Before v (get_or r.pairs c none)) e (shortest_order b c h g))

  -- "with the smallest squared size": what is not given comes after all that is [H1]
  pub shortest_first : (v w : Pair) → Memᴰ v (pairs_of P Q) → (Memᴰ v given → ⊥) → Memᴰ w given → Before w v
  shortest_first v w m out n =
      let asc = pairs_ascend (sheet_facts P p_opens) (sheet_facts Q q_opens) in
      of-shortest.shorter_before w v (of-shortest.shortest_pairs_first k (pairs_of P Q) start asc v w m (λ x. out (subst (Memᴰ v) (sym given_are) x)) (subst (Memᴰ w) given_are n))

-- "It depends on the points alone": whatever the forms, the editions and the trees
pub shortest_by_points : (P P' Q Q' : List ℤ) → WellFormed P → WellFormed P' → WellFormed Q → WellFormed Q' → (k : ℕ) → 1 ≤ k → k ≤ 16 → points_of P ≡ points_of P' → points_of Q ≡ points_of Q'
    → (ws vs : List ℕ) → need P ≤ length ws → need P' ≤ length vs → (r r' : Shortlist) (ws' vs' : List ℕ) → ShortAnswers P Q k ws r ws' → ShortAnswers P' Q' k vs r' vs' → r ≡ r'
unfolding short_given
shortest_by_points P P' Q Q' p p' q q' k some most ep eq ws vs enough enough' r r' ws' vs' a a' =
    let same : shortest_of k (pairs_of P Q) ≡ shortest_of k (pairs_of P' Q') = λ t. shortest_of k (ring_list (ep t) (eq t)) in
    is P Q p q k some most ws enough r ws' a
    ∙ (λ t. record { number = 0; count = length (same t); pairs = padded (same t) })
    ∙ sym (is P' Q' p' q' k some most vs enough' r' vs' a')
