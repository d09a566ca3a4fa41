-- The place that the scan finds is the first one.
use Rattle.std.proofs.Common.{◌≡◌, ℕ, zero, suc, ◌+◌, ◌<◌, ◌≤◌, Bool, true, false, cond, ltb, ◌⊎◌, List, [], ◌∷◌, get_or, Some, None, Option, sym, refl, ap, ◌∙◌, subst, inl, inr, ⊎_elim, arith}
use Rattle.std.specs.Option.{option_map}
use Rattle.std.proofs.lemmas.Bool.{ltb-true, ltb-false}
use Rattle.queue.specs.First.{Due, scan, earliest, Foremost}

none_some : {A : Type 0} {x : A} → None ≡ Some x → ⊥
none_some e = let z : ◌≡◌ {A = ℕ} 0 1 = cc in omega arith

abbrev due : ℕ → ℕ → Due
due p d = record { place = p; deadline = d }

-- d at the place q comes after e, or level at no lower place
abbrev Behind : Due → ℕ → ℕ → Type 0
Behind e q d = (e.deadline < d) ⊎ ((e.deadline ≡ d) × (e.place ≤ q))

-- nothing was found, before these places or in them
record Nothing (best : Option Due) (xs : List (Option ℕ)) : Type 0 where
  before : best ≡ None
  here : (k : ℕ) → get_or xs k None ≡ None

-- e was found, before the places from `at` on or in them, and all others are behind it
record Best (best : Option Due) (at : ℕ) (xs : List (Option ℕ)) (e : Due) : Type 0 where
  found : (best ≡ Some e) ⊎ ((k : ℕ) × (e.place ≡ at + k) × (get_or xs k None ≡ Some e.deadline))
  before : (b : Due) → best ≡ Some b → Behind e b.place b.deadline
  here : (k d : ℕ) → get_or xs k None ≡ Some d → Behind e (at + k) d

abbrev Told : Option Due → ℕ → List (Option ℕ) → Option Due → Type 0
Told best at xs None = Nothing best xs
Told best at xs (Some e) = Best best at xs e

-- what was found before these places stands at lower ones
abbrev Below : Option Due → ℕ → Type 0
Below best at = (b : Due) → best ≡ Some b → b.place < at

shift : (at k : ℕ) → at + 1 + k ≡ at + suc k
shift at k = omega arith

-- one place more in front, which has nothing
skip : (best : Option Due) (at : ℕ) (xs : List (Option ℕ)) (r : Option Due) → Told best (at + 1) xs r → Told best at (None ∷ xs) r
skip best at xs None t = record { before = t.before; here = go }
  where
    go : (k : ℕ) → get_or (None ∷ xs) k None ≡ None
    go zero = refl
    go (suc k) = t.here k
skip best at xs (Some e) t = record {
  found = ⊎_elim inl (λ f. inr (suc f.0, f.1 ∙ shift at f.0, f.2)) t.found;
  before = t.before;
  here = go;
}
  where
    go : (k d : ℕ) → get_or (None ∷ xs) k None ≡ Some d → Behind e (at + k) d
    go zero d h = absurd (none_some h)
    go (suc k) d h = subst (λ (q : ℕ). Behind e q d) (shift at k) (t.here k d h)

-- one place more in front, which is the best so far
take_it : (best : Option Due) (at d : ℕ) (xs : List (Option ℕ)) (r : Option Due) → ((b : Due) → best ≡ Some b → d < b.deadline) → Told (Some (due at d)) (at + 1) xs r → Told best at (Some d ∷ xs) r
take_it best at d xs None later t = absurd (none_some (sym t.before))
take_it best at d xs (Some e) later t = record {
  found = inr (⊎_elim (λ f. let q : due at d ≡ e = cc in (0, sym (ap (λ (x : Due). x.place) q) ∙ omega arith, ap (λ (x : Due). Some x.deadline) q)) (λ f. (suc f.0, f.1 ∙ shift at f.0, f.2)) t.found);
  before = λ b h. let l = later b h in ⊎_elim (λ s. inl (omega (arith, s, l))) (λ s. inl (omega (arith, s.0, l))) (t.before (due at d) refl);
  here = go;
}
  where
    go : (k x : ℕ) → get_or (Some d ∷ xs) k None ≡ Some x → Behind e (at + k) x
    go zero x h =
        let same : d ≡ x = cc in
        ⊎_elim (λ s. inl (omega (arith, s, same))) (λ s. inr (omega (arith, s.0, same), omega (arith, s.1))) (t.before (due at d) refl)
    go (suc k) x h = subst (λ (q : ℕ). Behind e q x) (shift at k) (t.here k x h)

-- one place more in front, behind the best so far
pass_by : (b : Due) (at d : ℕ) (xs : List (Option ℕ)) (r : Option Due) → b.deadline ≤ d → b.place < at → Told (Some b) (at + 1) xs r → Told (Some b) at (Some d ∷ xs) r
pass_by b at d xs None le low t = absurd (none_some (sym t.before))
pass_by b at d xs (Some e) le low t = record {
  found = ⊎_elim inl (λ f. inr (suc f.0, f.1 ∙ shift at f.0, f.2)) t.found;
  before = t.before;
  here = go;
}
  where
    level_or : (e' d' : ℕ) → e' ≤ d' → (e' < d') ⊎ (e' ≡ d')
    level_or e' d' h = by (ltb e' d') refl
      where
        by : (t' : Bool) → ltb e' d' ≡ t' → (e' < d') ⊎ (e' ≡ d')
        by true q = inl (ltb-true e' d' q)
        by false q = inr (omega (arith, ltb-false e' d' q))

    go : (k x : ℕ) → get_or (Some d ∷ xs) k None ≡ Some x → Behind e (at + k) x
    go zero x h =
        let same : d ≡ x = cc in
        ⊎_elim
        (λ s. inl (omega (arith, s, same, le)))
        (λ s. ⊎_elim (λ l. inl l) (λ l. inr (l, omega (arith, s.1, low))) (level_or e.deadline x (omega (arith, s.0, same, le))))
        (t.before b refl)
    go (suc k) x h = subst (λ (q : ℕ). Behind e q x) (shift at k) (t.here k x h)

told : (xs : List (Option ℕ)) (best : Option Due) (at : ℕ) → Below best at → Told best at xs (scan best at xs)
told [] None at low = record { before = refl; here = λ k. refl }
told [] (Some b) at low = record { found = inl refl; before = λ c h. let q : b ≡ c = cc in inr (ap (λ (x : Due). x.deadline) q, omega (arith, ap (λ (x : Due). x.place) q)); here = λ k d h. absurd (none_some h) }
told (None ∷ xs) best at low = skip best at xs _ (told xs best (at + 1) (λ b h. omega (arith, low b h)))
told (Some d ∷ xs) None at low = take_it None at d xs _ (λ b h. absurd (none_some h)) (told xs (Some (due at d)) (at + 1) (λ b h. let q : due at d ≡ b = cc in omega (arith, ap (λ (x : Due). x.place) q)))
told (Some d ∷ xs) (Some b) at low =
    by (ltb d b.deadline) refl
    (λ l. take_it (Some b) at d xs _ (λ c h. let q : b ≡ c = cc in omega (arith, l, ap (λ (x : Due). x.deadline) q)) (told xs (Some (due at d)) (at + 1) (λ c h. let q : due at d ≡ c = cc in omega (arith, ap (λ (x : Due). x.place) q))))
    (λ l. pass_by b at d xs _ l (low b refl) (told xs (Some b) (at + 1) (λ c h. omega (arith, low c h))))
  where
    by : (t : Bool) → ltb d b.deadline ≡ t → (d < b.deadline → Told (Some b) at (Some d ∷ xs) (scan (Some (due at d)) (at + 1) xs)) → (b.deadline ≤ d → Told (Some b) at (Some d ∷ xs) (scan (Some b) (at + 1) xs)) → Told (Some b) at (Some d ∷ xs) (scan (cond t (Some (due at d)) (Some b)) (at + 1) xs)
    by true e yes' no' = yes' (ltb-true d b.deadline e)
    by false e yes' no' = no' (ltb-false d b.deadline e)

pub foremost : (held : List (Option ℕ)) → Foremost held (earliest held)
foremost held = by (scan None 0 held) refl (told held None 0 (λ b h. absurd (none_some h)))
  where
    by : (r : Option Due) → scan None 0 held ≡ r → Told None 0 held r → Foremost held (option_map (λ e. e.place) r)
    by None e t = t.here
    by (Some f) e t = record {
      deadline = f.deadline;
      has = ⊎_elim (λ n. absurd (none_some n)) (λ h. ap (λ (k : ℕ). get_or held k None) (h.1 ∙ omega arith) ∙ h.2) t.found;
      others = λ q d h. ⊎_elim inl (λ s. inr (s.0, omega (arith, s.1))) (t.here q d h);
    }
