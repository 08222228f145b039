-- The state of a source and of a sink in memory, as contracts see it, and what one call of each
-- does: it fails where its number is among those that were named, and else moves as many bytes as
-- it may.
-- Key laws: `MemorySource::read` and `MemorySink::write` (`fails`, `takes`, `gives`, `counted`).
use Rattle.std.specs.Prelude.{ℕ, List}

-- a source with these bytes left, after so many calls
pub record SourceState : Type 0 where
  pub left : List ℕ
  pub most : ℕ
  pub fail : List ℕ
  pub calls : ℕ
  pub faults : ℕ

-- a sink that holds these bytes, after so many calls
pub record SinkState : Type 0 where
  pub written : List ℕ
  pub room : ℕ
  pub most : ℕ
  pub fail : List ℕ
  pub calls : ℕ
  pub faults : ℕ
