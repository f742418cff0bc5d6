-- The limits of what is kept.
use Rattle.std.specs.Prelude.{ℕ, ◌≤◌}

-- a key has 1 to 1,024 bytes
abbrev pub IsKeyLength : ℕ → Type 0
IsKeyLength n = (1 ≤ n) × (n ≤ 1024)

-- a value has at most 65,536 bytes
abbrev pub IsValueLength : ℕ → Type 0
IsValueLength n = n ≤ 65536
