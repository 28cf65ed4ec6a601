-- The steps of Hi.
use Rattle.std.proofs.Common.{ℕ, suc, List, ◌≡◌, ◌-◌, ◌+◌, ◌≤◌, refl, sym, ap, ◌∙◌, arith}
use Rattle.scram.specs.Hmac.{hmac, u_of, xor_of_first, xor_bytes}

pub only_first : (str salt : List ℕ) → u_of str salt 0 ≡ xor_of_first str salt 0
unfolding xor_of_first
only_first str salt = refl

u_suc : (str salt : List ℕ) (n : ℕ) → hmac str (u_of str salt n) ≡ u_of str salt (suc n)
unfolding u_of
u_suc str salt n = refl

xor_suc : (str salt : List ℕ) (n : ℕ) → xor_bytes (xor_of_first str salt n) (u_of str salt (suc n)) ≡ xor_of_first str salt (suc n)
unfolding xor_of_first
xor_suc str salt n = refl

-- U of the number after n
pub one_more_u : {u : List ℕ} (str salt : List ℕ) (n : ℕ) → 1 ≤ n → u ≡ hmac str (u_of str salt (n - 1)) → u ≡ u_of str salt (n + 1 - 1)
one_more_u str salt n low is =
    let e : suc (n - 1) ≡ n + 1 - 1 = omega arith in
    is ∙ u_suc str salt (n - 1) ∙ ap (u_of str salt) e

-- and the XOR of all so far with it
pub one_more_xor : (str salt : List ℕ) (n : ℕ) (all u out : List ℕ) → 1 ≤ n → all ≡ xor_of_first str salt (n - 1) → u ≡ u_of str salt (n + 1 - 1) → out ≡ xor_bytes all u → out ≡ xor_of_first str salt (n + 1 - 1)
one_more_xor str salt n all u out low so_far next is =
    let e : n + 1 - 1 ≡ suc (n - 1) = omega arith in
    is ∙ ap (λ (xs : List ℕ). xor_bytes xs u) so_far ∙ ap (xor_bytes (xor_of_first str salt (n - 1))) (next ∙ ap (u_of str salt) e)
    ∙ xor_suc str salt (n - 1) ∙ ap (xor_of_first str salt) (sym e)
