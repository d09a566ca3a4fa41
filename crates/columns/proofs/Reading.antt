-- What keeps a number that is read within 32 bits.
use Rattle.std.proofs.Common.{ℕ, ◌^◌, ◌<◌, ◌≤◌, arith}
use native.Mathlib.Nat.{pow-le-pow_right}

pub nine_digits : (i n : ℕ) → n < 10 ^ i → i ≤ 8 → n < 100000000
nine_digits i n h k = let p : 10 ^ i ≤ 10 ^ 8 = pow-le-pow_right (omega arith) k in omega arith
