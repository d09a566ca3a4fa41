-- A heap while one entry is on its way. The children of the entry at p are at 2 p + 1 and 2 p + 2.
use Rattle.std.specs.Prelude.{◌≡◌, ℕ, ◌+◌, ◌*◌, ◌<◌, ◌≤◌, Bool, true, List, length, ◌≢◌, slice_index_or}

-- the entry at c may leave before each child of the entry at j
unfoldable pub Lesser : {X : Type 0} → (X → X → Bool) → List X → ℕ → ℕ → Type 0
Lesser {X} upto xs j c = (k : ℕ) (d : X) → j * 2 + 1 ≤ k → k ≤ j * 2 + 2 → k < length xs → upto (slice_index_or xs c d) (slice_index_or xs k d) ≡ true

-- the parent of the entry at j may leave before each child of the entry at j
abbrev pub Across : {X : Type 0} → (X → X → Bool) → List X → ℕ → Type 0
Across {X} upto xs j = (p k : ℕ) (d : X) → p * 2 + 1 ≤ j → j ≤ p * 2 + 2 → j * 2 + 1 ≤ k → k ≤ j * 2 + 2 → k < length xs → upto (slice_index_or xs p d) (slice_index_or xs k d) ≡ true

-- a heap, but that the entry at j may have to go up
unfoldable pub Rising : {X : Type 0} → (X → X → Bool) → List X → ℕ → Type 0
Rising {X} upto xs j =
    ((p k : ℕ) (d : X) → p * 2 + 1 ≤ k → k ≤ p * 2 + 2 → k < length xs → (k ≢ j) → upto (slice_index_or xs p d) (slice_index_or xs k d) ≡ true) × Across upto xs j

-- a heap, but that the entry at j may have to go up or down
unfoldable pub Gap : {X : Type 0} → (X → X → Bool) → List X → ℕ → Type 0
Gap {X} upto xs j =
    ((p k : ℕ) (d : X) → p * 2 + 1 ≤ k → k ≤ p * 2 + 2 → k < length xs → (p ≢ j) → (k ≢ j) → upto (slice_index_or xs p d) (slice_index_or xs k d) ≡ true) × Across upto xs j
