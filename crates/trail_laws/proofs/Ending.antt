-- Where the scripts lead, and that the censuses at the end of an order say so.
use Rattle.std.proofs.Common.{◌≡◌, ◌<◌, ◌≤◌, ◌^◌, ℕ, Bool, true, false, sym, ap, ◌∙◌, arith, eqb-true, eq-eqb}
use Rattle.entry_word.specs.Marks.{mark_in, says_here}
use Rattle.entry_word.specs.declared.visit.Key.TheVariants.{Presence}
use Rattle.std.specs.Prelude.{◌==◌, ◌&&◌, not, slice_index}
use Rattle.node_set.specs.SetLaws.{has-passing, passing_same}
use Rattle.directory.specs.Settings.{Setting, start, subs}
use Rattle.directory.specs.Histories.{History, cell}
use Rattle.directory.specs.Orders.{AreValid, IsDone, IsPlayed, Scripts, history_of, steps_of}
use Rattle.directory.specs.Standing.{off, standing}
use Rattle.directory.specs.Statements.{DoneIsRest, DoneShowsScript, OrdersAreDone, OrdersArePlayed, PlayedIsLegal}
use Rattle.directory.specs.Places.{place_at_end}
use Rattle.directory.specs.StepLaws.{place-after_steps}
use Rattle.trail_laws.specs.Censuses.{CensusesEndByScripts, CensusesEndRight, IsCounted, is_on_at}
use Rattle.trail_laws.specs.Phases.{RestEndsItsCourse}

there-on : (node stands : ℕ) (is_off : Bool) → node ≡ stands → is_off ≡ false
    → is_on_at node (record { node = stands; is_off = is_off }) ≡ true
there-on node stands is_off same on =
    ap (λ b. not b && stands == node) on ∙ eq-eqb stands node (sym same)

-- what holds at the end of an order
record AtEnd (setting : Setting) (scripts : Scripts) (history : History) (sub : ℕ) : Type 0 where
  stands : standing setting sub history ≡ (place_at_end (start setting sub) (steps_of scripts sub)).node
  off_is : off sub history ≡ (place_at_end (start setting sub) (steps_of scripts sub)).is_off

end-there : RestEndsItsCourse → DoneIsRest → DoneShowsScript → PlayedIsLegal → {setting : Setting} {scripts : Scripts}
    (history : History) (sub : ℕ) → setting.nodes ≤ 2 ^ 16 → AreValid setting scripts → sub < subs setting
    → IsPlayed setting scripts history → IsDone setting scripts history sub → AtEnd setting scripts history sub
end-there ends rests shows legal {setting} {scripts} history sub low valid known played done =
    grind (arith, place-after_steps)

pub end-by_scripts : CensusesEndRight → RestEndsItsCourse → DoneIsRest → DoneShowsScript → OrdersArePlayed
    → OrdersAreDone → PlayedIsLegal → CensusesEndByScripts
end-by_scripts right ends rests shows played done legal setting scripts order node low valid below =
    passing_same _ _ 0 (subs setting) (λ sub h known. same sub (omega (arith, known)))
  where
    same : (sub : ℕ) → sub < subs setting → says_here (mark_in (cell setting (history_of setting scripts order)
        (Presence node sub)))
        ≡ is_on_at node (place_at_end (slice_index setting.starts sub) (steps_of scripts sub))
    same sub known =
        let counted : IsCounted setting (history_of setting scripts order) sub node =
        right setting scripts order sub node low valid known below in
        let listed = has-passing (λ s. says_here (mark_in (cell setting (history_of setting scripts order)
        (Presence node s)))) sub 0 (subs setting) (omega arith)
        (omega (arith, known)) in
        let end = end-there ends rests shows legal (history_of setting scripts order) sub low valid known
        (played setting scripts order) (done setting scripts order sub) in
        grind (arith, there-on, eqb-true)
