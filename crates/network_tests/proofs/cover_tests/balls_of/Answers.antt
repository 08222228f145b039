use Rattle.std.proofs.Common.{◌≡◌, ◌++◌, ◌∷◌, [], ◌+◌, ℕ, List, length, true, ap, sym, ◌∙◌, subst, arith, inl, inr}
use Rattle.std.specs.Prelude.{All}
use Rattle.std.proofs.lemmas.Bool.{cases_lt}
use Rattle.std.proofs.lemmas.List.{get_or_append_left, get_or_push, length_push, map_push}
use Rattle.std.proofs.lemmas.List.Elements.{All-push}
use Rattle.node_set.specs.Ascending.{has}
use Rattle.node_set.specs.Nodes.{Nodes}
use Rattle.node_set.specs.Balls.{sets, ball, AreCentred}
use Rattle.node_set.specs.BallLaws.{length-sets}
use Rattle.network_tests.proofs.cover_tests.balls_of.Goals as goal

-- one ball more that holds its centre
more_centred : (balls : List Nodes) (b : Nodes) → AreCentred (sets balls) → has (length balls) b.members ≡ true
    → AreCentred (sets (balls ++ b ∷ []))
more_centred balls b before here v h =
    let all : sets (balls ++ b ∷ []) ≡ sets balls ++ b.members ∷ [] = map_push (λ (s : Nodes). s.members) balls b in
    let count : length (sets balls) ≡ length balls = length-sets balls in
    elim (cases_lt v (length balls)) [
      | inl below ↦
          ap (λ (l : List (List ℕ)). has v (ball l v)) all
          ∙ ap (has v) (get_or_append_left (sets balls) (b.members ∷ []) [] v (omega arith))
          ∙ before v (omega arith)
      | inr last ↦
          let same : length balls ≡ v = omega (arith, length-sets (balls ++ b ∷ []), length_push balls b) in
          subst (λ n. has n (ball (sets (balls ++ b ∷ [])) n) ≡ true) same
          (ap (λ (l : List (List ℕ)). has (length balls) (ball l (length balls))) all
          ∙ ap (has (length balls)) (get_or_push (sets balls) b.members [] (length balls) count) ∙ here)
    ]

pub loop-v-preserved : goal.loop-v-preserved
loop-v-preserved c =
    let items = c.in_ok-push.ensures.items in
    record {
      count = ap (length {A = Nodes}) items ∙ length_push c.loop-v.balls.items c.in_ok-ball_of.field-0
          ∙ ap (λ n. n + 1) c.loop-v.invariant.count;
      rooms = subst (λ (l : List Nodes). All (λ (b : Nodes). b.room ≡ c.args.n) l) (sym items)
          (All-push (λ (b : Nodes). b.room ≡ c.args.n) c.loop-v.balls.items c.in_ok-ball_of.field-0
          c.loop-v.invariant.rooms c.in_ok-ball_of.ensures.room);
      centred = subst (λ (l : List Nodes). AreCentred (sets l)) (sym items)
          (more_centred c.loop-v.balls.items c.in_ok-ball_of.field-0 c.loop-v.invariant.centred
          (subst (λ n. has n c.in_ok-ball_of.field-0.members ≡ true) (sym c.loop-v.invariant.count)
          c.in_ok-ball_of.ensures.centre));
    }
