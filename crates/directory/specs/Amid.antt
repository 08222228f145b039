-- How far a subscriber is with its script, told by its puts: some steps are done, and at most one
-- is under way, of which so many writes are made. Key laws: `legal_is_amid` (legal puts are so
-- far), `steps_begin_at_rest` (a step begins where the one before is done).
use Rattle.std.specs.Prelude.{◌≡◌, ℕ, ◌≤◌, List, ◌++◌, length, take}
use Rattle.entry_word.specs.declared.visit.Visit.{Visit}
use Rattle.directory.specs.Settings.{Setting, start}
use Rattle.directory.specs.Courses.{Course, Step, after_steps, course_at}
use Rattle.directory.specs.Writes.{writes}
use Rattle.directory.specs.Puts.{steps_in}
use Rattle.directory.specs.States.{writes_made}

-- the course of a subscriber when it has made these steps from its start node on
abbrev pub course_of : Setting → ℕ → List Step → Course
course_of setting sub steps = after_steps setting (course_at (start setting sub)) steps

-- how far puts are: the steps that are done, the step under way, if there is one, and how many of
-- its writes are made, which is at least one
pub record IsAmid (setting : Setting) (sub : ℕ) (puts : List Visit) : Type 0 where
  pub before : List Step
  pub under : List Step
  pub made : ℕ
  pub steps : steps_in puts ≡ before ++ under
  pub one : length under ≤ 1
  pub some : length under ≤ made
  pub few : made ≤ length (writes setting (course_of setting sub before) under)
  pub writes : writes_made setting sub puts
      ≡ writes setting (course_at (start setting sub)) before
      ++ take made (writes setting (course_of setting sub before) under)
