-- `list::is_after` meets its contract: the order of keys that is derived, field after field, is that of the list. Assumes nothing.
use Rattle.std.proofs.Common.{◌≡◌, refl, ◌∙◌, Bool, true, false, cond, ◌&&◌, ◌||◌, ltb, eqb, Some, Less, Equal, Greater}
use Rattle.std.specs.Ordering.{is_some_and, is_lt, nat_cmp, partial_ordering_then}
use Rattle.list.specs.declared.Key.{Key}
use Rattle.list.specs.Pairs.{follows}
use Rattle.list.proofs.is_after.Goals as goal

by_fields : (k v : Key) → is_some_and is_lt (partial_ordering_then (Some (nat_cmp k.q v.q)) (Some (nat_cmp k.p v.p))) ≡ follows k v
unfolding follows
by_fields k v = go (ltb k.q v.q) (eqb k.q v.q) (ltb k.p v.p) (eqb k.p v.p)
  where
    go : (s t u w : Bool) → is_some_and is_lt (partial_ordering_then (Some (cond s Less (cond t Equal Greater))) (Some (cond u Less (cond w Equal Greater)))) ≡ (s || (t && u))
    go true t u w = refl
    go false true true w = refl
    go false true false true = refl
    go false true false false = refl
    go false false u w = refl

pub returns : goal.returns
returns c = c.lt.ensures ∙ by_fields c.args.k c.args.v
