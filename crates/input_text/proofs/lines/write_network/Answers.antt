use Rattle.std.proofs.Common.{◌≡◌, ◌<◌, ◌++◌, ◌∷◌, [], List, ℕ, ap, arith, length, map, refl, sym, ◌∙◌}
use Rattle.std.specs.Prelude.{codes}
use Rattle.net_graph.specs.declared.edge.Edge.{Edge}
use Rattle.input_text.specs.Listing.{actor_lines, call_lines, edge_line, home_line, line_of}
use Rattle.input_text.specs.Written.{seen_listing}
use Rattle.input_text.proofs.lines.write_network.Goals as goal

none_left : {X : Type 0} (xs : List X) → length xs < 1 → xs ≡ []
none_left [] below = refl
none_left (x ∷ xs) below = absurd (omega arith)

pub returns-in_default-homes : goal.returns-in_default-homes
returns-in_default-homes c =
    let left = seen_listing c.args.left.now in
    let callers = line_of (codes "callers") (left.callers ∷ []) in
    ap (λ (es : List Edge). map edge_line es ++ actor_lines left) (none_left left.edges c.in_default.len_below)
    ∙ ap (λ (hs : List ℕ). map home_line hs ++ callers ∷ call_lines left)
    (none_left left.homes c.in_default-homes.len_below)
    ∙ ap (λ (line : List ℕ). line ∷ call_lines left) (sym c.write_line.ensures)
