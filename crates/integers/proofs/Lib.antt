-- Laws of the integers and of tests, for every other crate.
--     Ring      ring laws of ℤ
--     Solver    a ring solver by reflection
--     Solve     the solver as it is called
--     Order     the order of ℤ for `omega`, and bounds
--     Linear    linear arithmetic over ℤ, products as atoms
--     Sign      signs of products
--     Mach      signed sums, differences and products as the machine does them
--     Cast      casts of signed integers
--     Bools     laws of tests
pub mod Ring
pub mod Solver
pub mod Solve
pub mod Order
pub mod Linear
pub mod Sign
pub mod Mach
pub mod Cast
pub mod Bools
pub mod Differences
