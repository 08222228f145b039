-- What a text says is a valid input.
use Rattle.std.proofs.Common.{◌≡◌, ℕ, ◌<◌, ◌≤◌, List, All, Result, Ok, Err, refl, sym, subst, arith}
use Rattle.net_graph.specs.Walks.{IsReached, everywhere}
use Rattle.net_reader.specs.declared.fault.InputFault.{InputFault}
use Rattle.net_reader.specs.declared.said.Call.{Call}
use Rattle.net_reader.specs.Said.{Said, actors, script_of}
use Rattle.net_reader.specs.Input.{Contents, contents_of, IsAnswer, IsInput, read}
use Rattle.net_reader.specs.CallLaws.{script-at, scripts_count, scripts-few}
use Rattle.net_reader.specs.Valid.{IsValid}
use Rattle.net_reader.proofs.Calling.{IsCalling, begins-calling, keeps-calling}
use Rattle.net_reader.proofs.Folding.{holds_of_read}
use Rattle.net_reader.proofs.Measured.{IsMeasured, begins-measured, keeps-measured}

valid_of : {said : Said} → IsMeasured said → IsCalling said → 6 ≤ said.place
    → ((v : ℕ) → v < said.nodes → IsReached said.edges everywhere 0 v) → IsValid (contents_of said)
valid_of {said} m c late connected =
    let script : ℕ → List Call = λ actor. script_of actor said.calls in
    let count = scripts_count script 0 (actors said) in
    let k = m.k (omega (arith, late)) in record {
      format = m.format (omega (arith, late));
      some = m.some (omega (arith, late));
      few = m.few;
      k_some = k.0;
      k_few = k.1;
      k_wide = k.2;
      edges = m.edges;
      few_edges = m.few_edges;
      homes = m.homes;
      some_homes = m.some_homes (omega (arith, late));
      few_homes = m.few_homes;
      callers = m.callers;
      scripts = count;
      courses = λ s below.
          grind (arith, script-at);
      searches = λ a above below.
          grind (arith, script-at);
      few_calls = omega (arith, scripts-few 0 (actors said) said.calls, c.few);
      order = subst (λ (n : ℕ). All (λ actor. actor < n) said.order) (sym count) c.order;
      connected = connected;
    }

valid-go : (found : Result (Said × ℕ) InputFault) (bytes : List ℕ) (contents : Contents) → read bytes ≡ found
    → IsAnswer found (Ok contents) → IsValid contents
valid-go (Err fault) bytes contents e h = cc
valid-go (Ok found) bytes contents e h =
    let m = holds_of_read IsMeasured begins-measured keeps-measured bytes e in
    let c = holds_of_read IsCalling begins-calling keeps-calling bytes e in
    subst IsValid (sym h.0) (valid_of m.0 c.0 m.1 h.1)

pub inputs_are_valid : (bytes : List ℕ) (contents : Contents) → IsInput bytes (Ok contents) → IsValid contents
inputs_are_valid bytes contents h = valid-go (read bytes) bytes contents refl h
