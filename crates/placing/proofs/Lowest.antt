-- The lowest number that passes a test.
use Rattle.std.proofs.Common.{◌≡◌, ℕ, zero, suc, ◌+◌, ◌<◌, ◌≤◌, Bool, true, false, cond, refl, ap, ◌∙◌, ⊎_elim, arith}
use Rattle.std.proofs.lemmas.Bool.{cases_eq}
use Rattle.placing.specs.FirstFit.{lowest}

-- none of the k numbers from b on passes
pub record NonePass (test : ℕ → Bool) (b k : ℕ) : Type 0 where
  pub none : (c : ℕ) → b ≤ c → c < b + k → test c ≡ false

-- m is the lowest of the k numbers from b on that passes
pub record LowestIs (test : ℕ → Bool) (b k m : ℕ) : Type 0 where
  pub from : b ≤ m
  pub to : m < b + k
  pub passes : test m ≡ true
  pub below : (c : ℕ) → b ≤ c → c < m → test c ≡ false

pub data Found (test : ℕ → Bool) (b k m : ℕ) : Type 0 where
  nowhere : m ≡ 0 → NonePass test b k → Found test b k m
  somewhere : LowestIs test b k m → Found test b k m

same_or : (a b : ℕ) {G : Type 0} → (a ≡ b → G) → ((a ≡ b → ⊥) → G) → G
same_or a b f g = ⊎_elim f g (cases_eq a b)

pub lowest_found : (test : ℕ → Bool) (b k : ℕ) → Found test b k (lowest test b k)
lowest_found test b zero = nowhere refl (record { none = λ c l h. absurd (omega arith) })
lowest_found test b (suc k) = go (test b) refl (lowest_found test (b + 1) k)
  where
    go : (t : Bool) → test b ≡ t → Found test (b + 1) k (lowest test (b + 1) k) → Found test b (suc k) (cond t b (lowest test (b + 1) k))
    go true e rest = somewhere (record { from = omega arith; to = omega arith; passes = e; below = λ c l h. absurd (omega arith) })
    go false e (nowhere z n) = nowhere z (record { none = λ c l h. same_or c b (λ s. ap test s ∙ e) (λ s. n.none c (omega arith) (omega arith)) })
    go false e (somewhere w) =
        let f = w.from in
        let t = w.to in
        somewhere (record {
          from = omega arith;
          to = omega arith;
          passes = w.passes;
          below = λ c l h. same_or c b (λ s. ap test s ∙ e) (λ s. w.below c (omega arith) h);
        })
