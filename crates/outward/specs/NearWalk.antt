-- The walk that goes nearest first, as source document 004 has it (3.1): what is nearest of all that waits is taken out and looked at, until nothing waits.
-- A box is skipped or opened, and what an opened node covers waits from then on. The test is made when the box is taken out.
use Rattle.std.specs.Prelude.{Bool, false, cond, List, [], ◌∷◌, ◌++◌, ℕ, zero, suc, ◌+◌, ◌-◌, eqb, ℤ}
use Rattle.plane.specs.declared.Spot.{Spot}
use Rattle.sheet.specs.Layout.{points, nodes}
use Rattle.bits.specs.Set.{kept, none}
use Rattle.walk.specs.FilterWalk.{Kept, so_far, shut, consider}
use Rattle.outward.specs.Waiting.{is_box, node_of, entry_position, box_entry, with_covered}

-- From the root, which is the last node: it waits at the start, and in a sheet with no node nothing does.
unfoldable pub root_waits : ℕ → List ℕ
root_waits m = cond (eqb m 0) [] (box_entry (m - 1) ∷ [])

-- `skip j s`: node j is skipped in the state s; `opened s`: the state once a node is opened; `meet i s`: the state once the point at position i is looked at
module _ {S : Type 0} (w : List ℤ) (n m : ℕ) (q : Spot) (skip : ℕ → S → Bool) (opened : S → S) (meet : ℕ → S → S) where
  -- so many steps, from what waits and from the state s on [G1]
  unfoldable pub near_steps : ℕ → List ℕ → S → S
  near_steps zero l s = s
  near_steps (suc k) [] s = s
  near_steps (suc k) (e ∷ l) s =
      cond (is_box m e)
      (cond (skip (node_of e) s) (near_steps k l s) (near_steps k (with_covered w n m q (node_of e) l) (opened s)))
      (near_steps k l (meet (entry_position m e) s))

  -- Each of the n points and m nodes is taken out once at most, so that nothing waits after so many steps: `all_keep` of proofs/NearLaws.
  unfoldable pub near_all : S → S
  near_all s = near_steps (n + m) (root_waits m) s

-- "Give the pump houses one after another in that order": the positions of all points, none skipped [G3]
unfoldable pub near_order : List ℤ → Spot → List ℕ
near_order w q = near_all w (points w) (nodes w) q (λ j s. false) (λ s. s) (λ i s. s ++ (i ∷ [])) []

-- "Then use the same walk as a second filter, kept sets and skips as in 01": its kept set on so many words, and the nodes opened [G4]
unfoldable pub near_kept : ℕ → List ℤ → Spot → Kept
near_kept words w q =
    near_all w (points w) (nodes w) q
    (λ j k. shut w (points w) q j k.bits)
    (λ k. so_far k.bits (k.opened + 1))
    (λ i k. so_far (consider w (points w) q i k.bits) k.opened)
    (so_far (none words) 0)

-- position i is kept by it
abbrev pub near_keeps : ℕ → List ℤ → Spot → ℕ → Bool
near_keeps words w q i = kept (near_kept words w q).bits i
