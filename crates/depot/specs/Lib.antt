-- The depot's forms.
--     Forms    what an order form is, and the forms that are made from a book
--     Depot    begin, and what taking a form decides, stores and hands back
pub mod Forms
pub mod Depot
