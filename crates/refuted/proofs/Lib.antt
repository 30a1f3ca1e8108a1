-- Wrong readings of the rules. Each is a definition with the sentence that it breaks, and a theorem `NAME_wrong`: a case that tells it from the right one, or that
-- no answer of its kind meets the promise. docs/PROMISES.md names them all, as `refuted NAME`.
--     Cases          what the cases are made of: the document's two sets
--     Plane          the ring rule, the filter's rules, rules (1) and (2) of boxes
--     List           the list, a chamber's partners, the self join, pages, what list a page is of
--     Sheet          words in files, the sheet, the packer
--     Walk           the kept set and the two walks
--     Pages          counts of nodes opened, numbers of refusal, a chamber's partners
--     Answers        the check, the point reader, the ring walk, the position of an id, an array's slots
--     Book           begin, the next key, take
--     Depot          the depot's forms: their key, taking and making them
--     Runs           one run per leaf
--     Nearest        nearest first: the order, the filter, the lent numbers
--     Shortest       the shortest circles
--     Many           many pairs at once, to a size, and how many there are
--     Ranked         the busiest chambers and pump houses, the most urgent visits
--     Streets        the street grid: what blocks, boxes, sizes, numbers
--     Contractors    two contractors: whose a chamber is, what each is handed, numbers
--     Border         a province's box: which circles lie in it, its margin, its records
--     Marker         the map marker
--     Over           what crosses to C
--     Listing        the listing program: which sheets it takes, which it opens first
pub mod Cases
pub mod Plane
pub mod List
pub mod Sheet
pub mod Walk
pub mod Pages
pub mod Answers
pub mod Book
pub mod Depot
pub mod Runs
pub mod Nearest
pub mod Shortest
pub mod Many
pub mod Ranked
pub mod Streets
pub mod Contractors
pub mod Border
pub mod Marker
pub mod Over
pub mod Listing
