-- Leaving a node out keeps what the lengths between the other nodes are made of.
use Rattle.std.proofs.Common.{◌≡◌, ◌≢◌, ℕ, ◌+◌, ◌<◌, ◌≤◌, min, List, sym, inl, inr, arith}
use Rattle.std.specs.Prelude.{Contains}
use Rattle.std.proofs.lemmas.Bool.{cases_eq}
use Rattle.distances.specs.declared.near_nodes.Near.{Near}
use Rattle.distances.specs.declared.weights.TheConstants.{FAR}
use Rattle.distances.specs.NodesLeftOut.{AreLengths, KeepsLengths, IsLeftOut, make_near}

module _ (n : ℕ) (d : ℕ → ℕ → ℕ) (lengths : AreLengths n d) (old new : ℕ → Type 0) (v : ℕ)
    (within : (x : ℕ) → old x → x < n) (v_old : old v)
    (fewer : (x : ℕ) → new x → old x × (x ≢ v)) (rest : (x : ℕ) → old x → x ≢ v → new x)
    (c e : ℕ → ℕ → ℕ) (keeps : KeepsLengths old c d) where
  module _ (lowered : (a b : ℕ) → new a → new b → e a b ≡ min (c a b) (c v a + c v b)) where
    pub kept_without : KeepsLengths new e d
    kept_without = record {
      sound = λ a b a_new b_new.
          let a_old = fewer a a_new in
          let b_old = fewer b b_new in
          omega (
            arith,
            lowered a b a_new b_new,
            keeps.sound a b a_old.0 b_old.0,
            keeps.sound v a v_old a_old.0,
            keeps.sound v b v_old b_old.0,
            lengths.triangle a v b (within a a_old.0) (within v v_old) (within b b_old.0),
            lengths.turned a v (within a a_old.0) (within v v_old),
          );
      turned = λ a b a_new b_new.
          omega (
            arith,
            lowered a b a_new b_new,
            lowered b a b_new a_new,
            keeps.turned a b (fewer a a_new).0
                (fewer b b_new).0,
          );
      goes_on = λ a b a_new b_new apart.
          let a_old = fewer a a_new in
          let b_old = fewer b b_new in
          let g = keeps.goes_on a b a_old.0 b_old.0 apart in
          elim (cases_eq g.next v) [
            | inl same ↦
                let h = keeps.goes_on v b v_old b_old.0 (λ is. b_old.1 (sym is)) in
                let through : c a v + d v b ≤ d a b = rw same at g.short in
                elim (cases_eq h.next a) [
                  | inl back ↦ absurd (grind (
                    arith,
                    through,
                    h.short,
                    lengths.positive a v (within a a_old.0) (within v v_old) a_old.1,
                    keeps.sound a v a_old.0 v_old,
                    keeps.turned a v a_old.0 v_old,
                  ))
                  | inr on ↦
                      let next_new = rest h.next h.is_left h.other in
                      record {
                        next = h.next;
                        is_left = next_new;
                        other = on;
                        short = omega (
                          arith,
                          h.short,
                          lowered a h.next a_new next_new,
                          keeps.turned a v a_old.0 v_old,
                        );
                      }
                ]
            | inr other ↦
                let next_new = rest g.next g.is_left other in
                record {
                  next = g.next;
                  is_left = next_new;
                  other = g.other;
                  short = omega (arith, lowered a g.next a_new next_new, g.short);
                }
          ];
    }

  -- the near nodes are those that are left and have a weight
  module _ (near : List Near)
      (sound : (x w : ℕ) → Contains near (make_near x w) → new x × (w ≡ c v x) × (w < FAR))
      (whole : (x : ℕ) → new x → c v x < FAR → Contains near (make_near x (c v x))) where
    pub is_left_out : IsLeftOut new d v near
    is_left_out = record {
      sound = λ x w is_near.
          let s = sound x w is_near in
          (s.0, omega (arith, s.1, keeps.sound v x v_old (fewer x s.0).0), s.2);
      leads_on = λ b b_new.
          let b_old = fewer b b_new in
          let g = keeps.goes_on v b v_old b_old.0 (λ is. b_old.1 (sym is)) in
          record {
            node = g.next;
            weight = c v g.next;
            is_near = whole g.next (rest g.next g.is_left g.other)
                (omega (arith, g.short, lengths.light v b (within v v_old) (within b b_old.0)));
            short = g.short;
          };
    }
