-- The page maker's work, step by step on a page in the making.
use Rattle.std.specs.Prelude.{true, false, cond, not, ◌&&◌, ℕ, zero, suc, ◌+◌, ◌-◌, set, replicate, ltb}
use Rattle.list.specs.declared.Key.{Key}
use Rattle.list.specs.declared.Pair.{Pair}
use Rattle.list.specs.declared.Source.{Source}
use Rattle.list.specs.declared.Page.{Page}
use Rattle.list.specs.Pairs.{none, key_of, follows}
use Rattle.join.specs.declared.Draft.{Draft}
use Rattle.join.specs.declared.Tried.{Tried}
use Rattle.join.specs.Walks.{Walks}
use Rattle.join.specs.Work.{first_from}

-- n more nodes opened
abbrev pub spent : ℕ → Draft → Draft
spent n d = record { pairs = d.pairs; count = d.count; more = d.more; opened = d.opened + n }

-- a pair was found: it is shown, or it is the first beyond the size
unfoldable pub found : ℕ → Pair → Draft → Draft
found size v d =
    cond (ltb d.count size)
    (record { pairs = set d.pairs d.count v; count = d.count + 1; more = d.more; opened = d.opened })
    (record { pairs = d.pairs; count = d.count; more = true; opened = d.opened })

-- a kept partner was tried, with which q makes the pair v
unfoldable pub with_tried : ℕ → Pair → Tried → Draft → Draft
with_tried size v t d = cond t.finds (found size v (spent t.opened d)) (spent t.opened d)

-- position i of P, kept for the q at j: ring-walked if it is after the key
unfoldable pub tried : Walks → Key → ℕ → ℕ → Tried
tried w key j i =
    record {
      finds = follows key (key_of (w.pair j i)) && w.clear j i;
      opened = cond (follows key (key_of (w.pair j i))) (w.clear_opened j i) 0;
    }

module _ (w : Walks) (key : Key) (size : ℕ) where
  -- position i of P, for the q at j
  unfoldable pub partner : ℕ → ℕ → Draft → Draft
  partner j i d = cond (w.kept j i) (with_tried size (w.pair j i) (tried w key j i) d) d

  -- the k positions of P from i on, until a pair beyond the size is found
  unfoldable pub partners : ℕ → ℕ → ℕ → Draft → Draft
  partners j zero i d = d
  partners j (suc k) i d = cond d.more d (partners j k (i + 1) (partner j i d))

  -- the q at j is filtered, and its n positions of P follow
  unfoldable pub chamber : ℕ → ℕ → Draft → Draft
  chamber n j d = partners j n 0 (spent (w.kept_opened j) d)

  -- the k positions of Q from j on, until a pair beyond the size is found
  unfoldable pub chambers : ℕ → ℕ → ℕ → Draft → Draft
  chambers n zero j d = d
  chambers n (suc k) j d = cond d.more d (chambers n k (j + 1) (chamber n j d))

abbrev pub blank : Draft
blank = record { pairs = replicate 16 none; count = 0; more = false; opened = 0 }

-- the page maker's work for np pump houses and nq chambers
unfoldable pub page_made : Walks → Key → ℕ → ℕ → ℕ → Draft
page_made w key size np nq = chambers w key size np (nq - first_from w.qid key nq) (first_from w.qid key nq) blank

-- the page of what was made: the end mark where no pair beyond the size was found
unfoldable pub page_from : Source → Key → Draft → Page
page_from s key d = record { source = s; key = key; count = d.count; end = not d.more; pairs = d.pairs }
