-- The walks of a contractor's page: "Only its own chambers are filtered and counted".
use Rattle.std.specs.Prelude.{Bool, cond, ◌&&◌, List, ℕ, ℤ}
use Rattle.list.specs.declared.Terms.{Terms}
use Rattle.list.specs.Contractor.{mine}
use Rattle.join.specs.Walks.{Walks}
use Rattle.join.specs.Sheets.{walks_by}
use Rattle.join.specs.Threshold.{walks_for}

-- the walks of the chambers that m holds of: for any other nothing is kept, and no node is opened [U7]
unfoldable pub only_for : (ℕ → Bool) → Walks → Walks
only_for m w =
    record {
      kept = λ j i. m j && w.kept j i;
      kept_opened = λ j. cond (m j) (w.kept_opened j) 0;
      clear = w.clear;
      clear_opened = w.clear_opened;
      qid = w.qid;
      pair = w.pair;
    }

-- the walks of a page of the terms, by the owner bytes, on so many words, with n positions of P [U7]
abbrev pub page_walks : Terms → List ℕ → ℕ → List ℤ → List ℤ → ℕ → Walks
page_walks a o words P Q n = only_for (mine a.contractor o) (walks_for (walks_by a words P Q) n a.threshold)
