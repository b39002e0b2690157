-- How steps and ticks pay for one another.
use Rattle.std.proofs.Common.{ℕ, ◌+◌, ◌*◌, ◌≤◌, arith}
use Rattle.ep_simulation.specs.Follows.{Pays}

-- one run after another, where the credit after the first is the one before the second
pub pays_join : {m left t d e left2 t2 f : ℕ} → Pays m left t d e → Pays left left2 t2 e f
    → Pays m left2 (t + t2) d f
pays_join p q = record { spent = p.spent + q.spent; all = omega (arith, p.all, q.all); slow = omega (arith, p.slow, q.slow); fast = omega (arith, p.fast, q.fast) }

-- more credit before, or less after
pub pays_weaken : {m left t d e d2 e2 : ℕ} → d + e2 ≤ d2 + e → Pays m left t d e → Pays m left t d2 e2
pays_weaken h p = record { spent = p.spent; all = p.all; slow = omega (arith, p.slow); fast = omega (arith, p.fast) }

-- no step and no tick
pub pays_nothing : (m d : ℕ) → Pays m m 0 d d
pays_nothing m d = record { spent = 0; all = omega arith; slow = omega arith; fast = omega arith }

-- ticks without a step cost their number
pub pays_waits : (m t e : ℕ) → Pays m m t (t + e) e
pays_waits m t e = record { spent = 0; all = omega arith; slow = omega arith; fast = omega arith }

-- steps without a tick cost their number
pub pays_moves : (k left e : ℕ) → Pays (k + left) left 0 (k + e) e
pays_moves k left e = record { spent = k; all = omega arith; slow = omega arith; fast = omega arith }

-- so many steps in so many ticks
pub pays_both : (k left t d e : ℕ) → k + e ≤ 64 * t + d → t + e ≤ 64 * k + d → Pays (k + left) left t d e
pays_both k left t d e h i = record { spent = k; all = omega arith; slow = h; fast = i }
