-- Rows that follow one another in one flat list, when their lengths were counted first: each begins
-- at the sum of the counts before it, so each has its places, and no two share one.
-- Key laws: those of `StartLaws`, and of `RowLaws` for what is written and read there.
use Rattle.std.specs.Prelude.{◌≡◌, ℕ, ◌+◌, ◌<◌, ◌≤◌, List, length, slice_index, slice_index_or, slice_range}

-- the sums of the counts before each row, and of all
pub record AreStarts (counts starts : List ℕ) : Type 0 where
  pub count : length starts ≡ length counts + 1
  pub each : (v : ℕ) → v < length counts
      → slice_index starts (v + 1) ≡ slice_index starts v + slice_index counts v

-- from its start on each of n rows has as many places as its size says
pub record HavePlaces (n : ℕ) (size : ℕ → ℕ) (starts : List ℕ) : Type 0 where
  pub count : length starts ≡ n + 1
  pub each : (v : ℕ) → v < n → slice_index starts (v + 1) ≡ slice_index starts v + size v

-- the first so many parts of each row are in their places
pub record AreFilled {A : Type 0} (rows : ℕ → List A) (starts taken : List ℕ) (flat : List A) :
    Type 0 where
  pub within : (v : ℕ) → v < length taken → slice_index taken v ≤ length (rows v)
  pub written : (v place : ℕ) (d : A) → v < length taken → place < slice_index taken v
      → slice_index_or flat (slice_index starts v + place) d ≡ slice_index_or (rows v) place d

-- n rows lie one after another, and the starts say where each begins and ends
pub record AreRowsOf {A : Type 0} (n : ℕ) (rows : ℕ → List A) (starts : List ℕ) (flat : List A) :
    Type 0 where
  pub count : length starts ≡ n + 1
  pub order : (v : ℕ) → v < n → slice_index starts v ≤ slice_index starts (v + 1)
  pub within : (v : ℕ) → v ≤ n → slice_index starts v ≤ length flat
  pub each : (v : ℕ) → v < n
      → slice_range flat (slice_index starts v) (slice_index starts (v + 1)) ≡ rows v
