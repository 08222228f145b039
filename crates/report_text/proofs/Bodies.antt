-- The body of a level that is kept, and what is written of it.
use Rattle.std.proofs.Common.{◌≡◌, ℕ, ◌+◌, ◌-◌, ◌<◌, false, List, [], ◌∷◌, ◌++◌, length, codes, sym, ◌∙◌, ap, append_assoc, arith}
use Rattle.std.proofs.lemmas.List.{append_cancel_right, length-append}
use Rattle.region_plan.specs.Plan.{PlanData, Level, Repeats, level_at}
use Rattle.outside.specs.Texts.{fields}
use Rattle.report_text.specs.PlanText.{clusters_text, homes_line}
use Rattle.report_text.specs.Written.{IsInPlan, IsStep, KeepsBody, clusters_left, levels_left, plan_left}
use Rattle.report_text.specs.declared.kept.KeptBody.{KeptBody}
use Rattle.report_text.specs.declared.plan.NextPart.{NextPart}

-- a level that repeats the one below has its body
pub again : (plan : PlanData) (i : ℕ) (body : List ℕ) → body ++ levels_left plan i ≡ clusters_left plan (i - 1) 0
    → Repeats plan i
    → (body ++ levels_left plan (i + 1) ≡ clusters_left plan i 0) × (0 < length body)
again plan i body whole same =
    let below : Level = level_at plan (i - 1) in
    let here : Level = level_at plan i in
    let at : i - 1 + 1 ≡ i = omega (arith, same.above) in
    let text : List ℕ = clusters_text 0 here.clusters ++ homes_line here in
    let was : body ++ levels_left plan i ≡ (clusters_text 0 below.clusters ++ homes_line below) ++ levels_left plan i =
    whole
    ∙ ap (λ k. clusters_text 0 below.clusters ++ (homes_line below ++ levels_left plan k)) at
    ∙ sym (append_assoc (clusters_text 0 below.clusters) (homes_line below) (levels_left plan i)) in
    let is : body ≡ text =
    append_cancel_right body (clusters_text 0 below.clusters ++ homes_line below) (levels_left plan i) was
    ∙ ap (λ cs. clusters_text 0 cs ++ homes_line below) (sym same.clusters)
    ∙ ap (λ hs. clusters_text 0 here.clusters ++ (codes "homes" ++ (fields hs ++ 10 ∷ []))) (sym same.homes) in (
      ap (λ b. b ++ levels_left plan (i + 1)) is
          ∙ append_assoc (clusters_text 0 here.clusters) (homes_line here) (levels_left plan (i + 1)),
      grind (arith, length-append),
    )

-- a part after which the kept body isn't to be written
pub plain_step : (plan : PlanData) (before after : NextPart) (kept : KeptBody) (part : List ℕ) → kept.waits ≡ false
    → plan_left plan before ≡ part ++ plan_left plan after → 0 < length part → IsInPlan plan after
    → KeepsBody plan after kept → IsStep plan before after kept part
plain_step plan before after kept part still text some sound keeps = record {
  text = grind arith;
  some = some;
  sound = sound;
  keeps = keeps;
}
