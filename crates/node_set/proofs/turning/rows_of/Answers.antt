use Rattle.std.proofs.Common.{◌≡◌, ◌∙◌, ℕ, ◌+◌, [], ◌∷◌, ◌++◌, List, length, ap, arith, sym}
use Rattle.std.proofs.lemmas.List.{length_push}
use Rattle.std.proofs.lemmas.List.Elements.{All-push}
use Rattle.node_set.specs.Ascending.{has, sift}
use Rattle.node_set.specs.Balls.{ball, sets}
use Rattle.node_set.specs.Nodes.{Nodes}
use Rattle.node_set.proofs.Turns.{row_more, rows_turned}
use Rattle.node_set.proofs.turning.rows_of.Goals as goal

pub loop-v-preserved : goal.loop-v-preserved
loop-v-preserved c =
    let balls = c.args.balls.now in
    let rows = c.loop-v.rows.items in
    let row = c.in_ok-row_of.field-0 in
    let wanted : ℕ → List ℕ = λ v. sift (λ u. has v (ball (sets balls) u)) 0 (length balls) in
    let fits : Nodes → Type 0 = λ b. b.room ≡ length balls in
    let count : length rows ≡ c.loop-v.v = c.loop-v.invariant.count in
    let grown : c.push.new.self.items ≡ rows ++ row ∷ [] = c.in_ok-push.ensures.items in record {
      count = ap (length {A = Nodes}) grown ∙ length_push rows row ∙ ap (λ n. n + 1) count;
      rooms = rw grown
          (All-push fits rows row c.loop-v.invariant.rooms (ap (λ (b : Nodes). b.room) c.in_ok-row_of.ensures));
      each = λ v below. ap (λ (l : List Nodes). ball (sets l) v) grown
          ∙ row_more rows row wanted (λ u before. c.loop-v.invariant.each u (omega (arith, before, count)))
          (ap (λ (b : Nodes). b.members) c.in_ok-row_of.ensures ∙ ap wanted (sym count)) v
          (omega (arith, below, count));
    }

pub returns-clause-turned : goal.returns-clause-turned
returns-clause-turned c =
    rows_turned c.args.balls.now c.loop-v.rows.items (omega (arith, c.loop-v.invariant.count, c.loop-v-test.false))
    (λ v below. c.loop-v.invariant.each v (omega (arith, c.loop-v-test.false)))
