-- Sums modulo 2^128.
use Rattle.std.proofs.Common.{◌≡◌, ℕ, ◌+◌, ◌%◌, ◌^◌, refl, sym, ap, ◌∙◌, add_comm, arith}
use Rattle.std.proofs.Math.Nat.{mod-add-mod}
use Rattle.locked_node.specs.Totals.{SameSum}

pub same_refl : (a : ℕ) → SameSum a a
same_refl a = refl

-- the same number added on both sides
pub same_plus : (a b n : ℕ) → SameSum a b → SameSum (a + n) (b + n)
same_plus a b n same = sym (mod-add-mod a (2 ^ 128) n) ∙ (ap (λ (x : ℕ). (x + n) % 2 ^ 128) same ∙ mod-add-mod b (2 ^ 128) n)

pub same_both : (a b c d : ℕ) → SameSum a b → SameSum c d → SameSum (a + c) (b + d)
same_both a b c d one other = same_plus a b c one ∙ (ap (λ (x : ℕ). x % 2 ^ 128) (add_comm b c) ∙ (same_plus c d b other ∙ ap (λ (x : ℕ). x % 2 ^ 128) (add_comm d b)))

-- a sum that was reduced
pub same_reduced : (x a : ℕ) → x ≡ a % 2 ^ 128 → SameSum x a
same_reduced x a e = ap (λ (y : ℕ). y % 2 ^ 128) e ∙ (ap (λ (y : ℕ). y % 2 ^ 128) (sym (add_zero (a % 2 ^ 128))) ∙ (mod-add-mod a (2 ^ 128) 0 ∙ ap (λ (y : ℕ). y % 2 ^ 128) (add_zero a)))
  where
    add_zero : (n : ℕ) → n + 0 ≡ n
    add_zero n = omega arith

pub same_equal : (a b : ℕ) → a ≡ b → SameSum a b
same_equal a b e = ap (λ (x : ℕ). x % 2 ^ 128) e
