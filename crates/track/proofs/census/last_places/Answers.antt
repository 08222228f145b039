use Rattle.std.proofs.Common.{◌≡◌, ◌<◌, ◌+◌, ◌++◌, ◌∷◌, [], ℕ, List, Option, subst, sym, rules, arith, ap, length, length-append}
use Rattle.std.proofs.lemmas.Grind.{common_steps}
use Rattle.std.specs.Prelude.{None, slice_index, slice_index_or}
use Rattle.net_reader.specs.Seen.{seen_input}
use Rattle.scripts.specs.Scripts.{scripts_of}
use Rattle.directory.specs.Orders.{steps_of}
use Rattle.directory.specs.Places.{place_at_end}
use Rattle.track.specs.Places.{node_if_on}
use Rattle.track.proofs.Replaying.{place-more}
use Rattle.track.proofs.census.last_places.Goals as goal

pub loop-sub-preserved : goal.loop-sub-preserved
loop-sub-preserved c =
    let contents = seen_input c.args.input.now in
    let old = c.loop-sub.places.items in
    let told = λ (sub : ℕ). node_if_on (place_at_end (slice_index contents.homes sub)
    (steps_of (scripts_of contents) sub)) in
    let grown : c.push.new.self.items ≡ old ++ c.last_place.result ∷ [] = search rules in
    let here : c.last_place.result ≡ told c.loop-sub.sub = grind (arith, common_steps) in
    record {
      count = omega (arith, ap length grown, length-append old (c.last_place.result ∷ []), c.loop-sub.invariant.count);
      each = subst (λ (places : List (Option ℕ)). (sub : ℕ) → sub < c.loop-sub.sub + 1
          → slice_index_or places sub None ≡ told sub) (sym grown)
          (place-more told old c.loop-sub.invariant.count c.loop-sub.invariant.each here);
    }
