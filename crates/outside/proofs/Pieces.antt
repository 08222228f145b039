-- What a copy to the front of a buffer makes of the bytes that were left.
use Rattle.std.proofs.Common.{◌≡◌, ℕ, ◌+◌, ◌≤◌, List, ◌++◌, length, take, drop, sym, arith, length-take}
use Rattle.std.proofs.lemmas.List.{take-append-le, take-append-drop, drop-drop, take_all}

-- the bytes that were left are those at the front of the buffer, and what is left behind them
pub drop-moved : (bytes left rest : List ℕ) (at count : ℕ) → drop at bytes ≡ left → count ≤ length left
    → left ≡ take count (take count left ++ rest) ++ drop (at + count) bytes
drop-moved bytes left rest at count same within =
    let front : count ≤ length (take count left) = simp length-take (omega arith) in
    rw (
      take-append-le count (take count left) rest front,
      take_all count (take count left) (simp length-take (omega
          arith)),
      sym (drop-drop count at bytes),
      same,
    )
    (sym (take-append-drop count left))
