-- A half's step stays within 32 bits.
use Rattle.std.proofs.Common.{ℕ, ◌*◌, ◌%◌, ◌<◌, ◌≤◌, mul-le-mul, arith}

pub product : (m x : ℕ) → m < 65536 → m * (x % 65536) ≤ 65535 * 65535
product m x h = mul-le-mul {n₁ = m} {m₁ = x % 65536} {n₂ = 65535} {m₂ = 65535} (omega arith) (omega arith)
