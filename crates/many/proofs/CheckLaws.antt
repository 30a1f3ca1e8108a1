-- The numbers of the calls, and their answers by them.
-- Assumes nothing.
use mathlib.Core.Path.{◌≡◌, refl, sym, ap, ◌∙◌}
use mathlib.Core.Bool.{Bool, false}
use mathlib.Core.List.{List, [], ◌∷◌, ◌++◌}
use Prim.Native.Nat.{ℕ, zero, suc, ◌≤◌}
use lib.IntN.{ℤ}
use lib.ListN.{length, take, drop}
use borrow.Author.Tests.{ltb-false}
use Rattle.words.specs.First.{given, first, answer}
use Rattle.words.proofs.FirstLaws.{first_passes, first_stops, first_last, none_applies, given_failed, answer_given, answer_refused}
use Rattle.sheet.specs.Layout.{points}
use Rattle.sheet.specs.Places.{points_of}
use Rattle.sheet.specs.Open.{sheet_no}
use Rattle.bits.specs.Set.{words_for, none, wiped}
use Rattle.bits.proofs.LentLaws.{part_wiped}
use Rattle.list.specs.declared.Key.{Key}
use Rattle.list.specs.declared.Terms.{Terms}
use Rattle.list.specs.Pairs.{start}
use Rattle.list.specs.Pages.{threshold_no, contractor_no, owners_no}
use Rattle.join.specs.Sheets.{Alone}
use Rattle.ring.specs.declared.Head.{Head}
use Rattle.ring.specs.Answers.{head_of, Heads, heads_shut, heads_of}
use Rattle.ring.specs.Lent.{need, bits_no, wiped_by}
use Rattle.ring.specs.Numbers.{grid_no}
use Rattle.ring.specs.Page.{key_no}
use Rattle.ring.proofs.HeadLaws.{headed, head_number, HeadedBoth, headed_both, sheets_stop, sheets_pass}
use Rattle.ring.proofs.LentLaws.{wiped_refused, wiped_given}
use Rattle.many.specs.declared.Wanted.{Wanted}
use Rattle.many.specs.declared.Which.{Which}
use Rattle.many.specs.declared.Counted.{Counted}
use Rattle.chamber.specs.Sized.{list_to}
use Rattle.many.specs.Many.{largest_no, pairs_no, count_no, own_pairs_no, own_count_no, rest_no, count_given}
use Rattle.many.specs.Checked.{Served}

-- ---- the first of some numbers

-- one more before those whose first is known
pub many_first_more : (a c r s : ℕ) (l : List ℕ) → a ≡ c → r ≡ first l → s ≡ first (a ∷ r ∷ []) → s ≡ first (c ∷ l)
unfolding first
many_first_more zero c r s l e f g = g ∙ first_last r ∙ f ∙ ap (λ (x : ℕ). first (x ∷ l)) e
many_first_more (suc a) c r s l e f g = g ∙ ap (λ (x : ℕ). first (x ∷ l)) e

-- a number that never applies
pub first_without : (a b : List ℕ) (k : ℕ) → k ≡ 0 → first (a ++ (k ∷ b)) ≡ first (a ++ b)
unfolding first
first_without [] b k e = first_passes k b e
first_without (zero ∷ a) b k e = first_without a b k e
first_without (suc n ∷ a) b k e = refl

pub key_start : key_no start ≡ 0
unfolding key_no given
key_start = refl

pub bits_lent : (words len : ℕ) → bits_no words len ≡ 0 → words ≤ len
unfolding bits_no
bits_lent words len e = ltb-false len words (given_failed 23 e)

-- ---- two sheets

module _ (P Q : List ℤ) (o : List ℕ) (a : Wanted) (len : ℕ) where
  pub pairs_shut : (k : ℕ) → heads_shut k ≡ heads_of P Q → (k ≡ 0 → ⊥) → k ≡ pairs_no P Q o a len
  unfolding pairs_no
  pairs_shut k e ne = sym (sheets_stop P Q _ _ e ne)

  module _ (h : Heads) (e : h ≡ heads_of P Q) (z : h.number ≡ 0) (w : ℕ) (as_many : w ≡ words_for h.np) (r : ℕ) (d : r ≡ rest_no P Q o h.nq a w len) where
    found : HeadedBoth P Q h
    found = headed_both P Q h e z

    needed : w ≡ need P
    needed = as_many ∙ ap words_for found.np_is

    pub pairs_rest : r ≡ pairs_no P Q o a len
    unfolding pairs_no rest_no
    pairs_rest =
        d ∙ ap (λ (n : ℕ). rest_no P Q o n a w len) found.nq_is ∙ ap (λ (k : ℕ). rest_no P Q o (points Q) a k len) needed
        ∙ sym (sheets_pass P Q h _ e z)

    pub pairs_served : r ≡ 0 → Served P Q (record { n = h.np; m = h.mp }) (record { n = h.nq; m = h.mq }) w len
    unfolding rest_no
    pairs_served x =
        record {
          p_opens = found.p_facts;
          q_opens = found.q_facts;
          needed = as_many;
          all = needed;
          lent = bits_lent w len ((none_applies _).0 (sym d ∙ x) 6);
        }

-- a list from its start on is one without a key
pub count_number : (P Q : List ℤ) (o : List ℕ) (a : Which) (len : ℕ) → pairs_no P Q o (record { key = start; largest = a.largest; threshold = a.threshold; contractor = a.contractor; grid = a.grid }) len ≡ count_no P Q o a len
unfolding pairs_no count_no
count_number P Q o a len =
    first_without (sheet_no P ∷ sheet_no Q ∷ contractor_no false a.contractor ∷ owners_no a.contractor o (points Q) ∷ grid_no a.grid P Q ∷ [])
    (threshold_no a.threshold ∷ largest_no a.largest ∷ bits_no (need P) len ∷ []) (key_no start) key_start

-- ---- one sheet

-- its contractor, bytes and threshold are never refused
pub many_undivided : contractor_no false 2 ≡ 0
unfolding contractor_no given
many_undivided = refl

pub no_bytes : (n : ℕ) → owners_no 2 [] n ≡ 0
unfolding owners_no given
no_bytes n = refl

pub no_threshold : threshold_no 0 ≡ 0
unfolding threshold_no given
no_threshold = refl

module _ (S : List ℤ) (key : Key) (big : ℕ) (g : Bool) (len : ℕ) (h : Head) (e : h ≡ head_of S) where
  pub own_p : (h.number ≡ 0 → ⊥) → h.number ≡ own_pairs_no S key big g len
  unfolding own_pairs_no
  own_p ne = let n = head_number S h e in n ∙ sym (first_stops (sheet_no S) _ (λ z. ne (n ∙ z)))

  module _ (z : h.number ≡ 0) (w : ℕ) (as_many : w ≡ words_for h.n) (r : ℕ) (d : r ≡ rest_no S S [] h.n (record { key = key; largest = big; threshold = 0; contractor = 2; grid = g }) w len) where
    own_needed : w ≡ need S
    own_needed = as_many ∙ ap words_for (headed S h e z).n_is

    pub own_rest : r ≡ own_pairs_no S key big g len
    unfolding own_pairs_no rest_no
    own_rest =
        d ∙ ap (λ (k : ℕ). rest_no S S [] h.n (record { key = key; largest = big; threshold = 0; contractor = 2; grid = g }) k len) own_needed
        ∙ first_passes (contractor_no false 2) _ many_undivided
        ∙ first_passes (owners_no 2 [] h.n) _ (no_bytes h.n)
        ∙ first_without (grid_no g S S ∷ key_no key ∷ []) (largest_no big ∷ bits_no (need S) len ∷ []) (threshold_no 0) no_threshold
        ∙ sym (first_passes (sheet_no S) _ (headed S h e z).opens)

    pub many_own_served : r ≡ 0 → Served S S (record { n = h.n; m = h.m }) (record { n = h.n; m = h.m }) w len
    unfolding rest_no
    many_own_served x =
        record {
          p_opens = (headed S h e z).facts;
          q_opens = (headed S h e z).facts;
          needed = as_many;
          all = own_needed;
          lent = bits_lent w len ((none_applies _).0 (sym d ∙ x) 6);
        }

pub own_number : (S : List ℤ) (big : ℕ) (g : Bool) (len : ℕ) → own_pairs_no S start big g len ≡ own_count_no S big g len
unfolding own_pairs_no own_count_no
own_number S big g len = first_without (sheet_no S ∷ grid_no g S S ∷ []) (largest_no big ∷ bits_no (need S) len ∷ []) (key_no start) key_start

-- a self join is of one sheet in both places
pub many_of_one : (a : Terms) → a.threshold ≡ 0 → (S : List ℤ) → Alone a S S
many_of_one a z S = record { one = λ e. refl; no_t = λ e. z }

-- ---- answers by their numbers, and the lent words

module _ {A : Type 0} (good : A) (refusal : ℕ → A) (words : ℕ) (ws : List ℕ) (no : ℕ) (r : A) where
  pub done_refused : (k : ℕ) → k ≡ no → (k ≡ 0 → ⊥) → r ≡ refusal k → (r ≡ answer no good refusal) × (ws ≡ wiped_by no words ws)
  done_refused k e ne f = (f ∙ sym (answer_refused good refusal no k (sym e) ne), wiped_refused ws words no k (sym e) ne)

  pub done_given : no ≡ 0 → (w : ℕ) → w ≤ length ws → w ≡ words → r ≡ good → (b : List ℕ) → b ≡ none (length (take w ws)) → (r ≡ answer no good refusal) × (b ++ drop w ws ≡ wiped_by no words ws)
  done_given z w fits e f b g = (f ∙ sym (answer_given good refusal no z), part_wiped ws b w fits g ∙ ap (λ (n : ℕ). wiped n ws) e ∙ wiped_given ws words no z)

pub count_given_lem : (big : ℕ) (a : Terms) (o : List ℕ) (P Q : List ℤ) (c : ℕ) → c ≡ length (list_to big a o (points_of P) (points_of Q)) → ◌≡◌ {A = Counted} (record { number = 0; count = c }) (count_given big a o P Q)
unfolding count_given
count_given_lem big a o P Q c e = λ i. record { number = 0; count = e i }
