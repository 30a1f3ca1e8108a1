-- The calls over C.
--     Over    the answers as C sees them: the number first, zeros where refused
pub mod Over
