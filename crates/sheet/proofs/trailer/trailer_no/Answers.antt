use borrow.Author.Tests.{lt-ltb, le-ltb}
use Rattle.words.specs.First.{given, first}
use Rattle.sheet.specs.Layout.{trailer_no}
use Rattle.sheet.proofs.trailer.trailer_no.Goals as goal

-- src/trailer.rt:44:9
pub returns-then-len-lt6 : goal.returns-then-len-lt6
unfolding trailer_no first given
returns-then-len-lt6 c = rw (lt-ltb _ _ c.if-len-lt6.true)

-- src/trailer.rt:47:9
pub returns-then-not-is_at : goal.returns-then-not-is_at
unfolding trailer_no first given
returns-then-not-is_at c = rw (le-ltb _ _ c.if-len-lt6.false, ← c.is_at.ensures, c.if-not-is_at.true)

-- src/trailer.rt:50:9
pub returns-then-not-counts_ok : goal.returns-then-not-counts_ok
unfolding trailer_no first given
returns-then-not-counts_ok c =
    let d = c in
    rw (le-ltb _ _ d.if-len-lt6.false, ← d.is_at.ensures, d.if-not-is_at.false, ← c.counts_ok.ensures, c.if-not-counts_ok.true)

-- src/trailer.rt:53:9
pub returns-then-not-layout_ok : goal.returns-then-not-layout_ok
unfolding trailer_no first given
returns-then-not-layout_ok c =
    let e = c in
    let d = e in
    rw (le-ltb _ _ d.if-len-lt6.false, ← d.is_at.ensures, d.if-not-is_at.false, ← e.counts_ok.ensures, e.if-not-counts_ok.false, ← c.layout_ok.ensures, c.if-not-layout_ok.true)

-- src/trailer.rt:39:1
pub returns : goal.returns
unfolding trailer_no first given
returns c =
    let e = c in
    let d = e in
    rw (le-ltb _ _ d.if-len-lt6.false, ← d.is_at.ensures, d.if-not-is_at.false, ← e.counts_ok.ensures, e.if-not-counts_ok.false, ← c.layout_ok.ensures, c.if-not-layout_ok.false)
