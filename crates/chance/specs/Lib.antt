-- Numbers drawn at random.
--     Chance    the generator's next state
pub mod Chance
