-- Values for examples: a listing and the value of a lone node, and members of the keys of an input
-- but its order, or of all but one of these. Key laws: `example_shapes`, `example_rows` (computed).
use Rattle.std.specs.Prelude.{ℕ, suc, List, [], ◌∷◌, ◌++◌, codes, drop, take}
use Rattle.input_text.specs.Listing.{ListingValue}
use Rattle.serde_json.specs.Data.{Data, Members, array, member, no_items, no_members, object}
use Rattle.json_form.specs.Values.{whole, wholes}

-- members of these keys, each with the value 0
abbrev pub keyed : List (List ℕ) → Members
keyed [] = no_members
keyed (key ∷ keys) = member key (whole 0) (keyed keys)

-- the keys of an input but its order
abbrev pub needed_keys : List (List ℕ)
needed_keys =
    codes "callers" ∷ codes "calls" ∷ codes "edges" ∷ codes "k" ∷ codes "nodes" ∷ codes "subs"
    ∷ codes "track" ∷ []

-- members of these keys, but for the key of this place
abbrev pub keyed_but : ℕ → Members
keyed_but place = keyed (take place needed_keys ++ drop (suc place) needed_keys)

-- the value of a lone node, of this k, without an order, and with these members after the others
abbrev pub lone_value : Data → Members → Data
lone_value k others =
    object
    (member (codes "callers") (whole 0)
    (member (codes "calls") (array no_items)
    (member (codes "edges") (array no_items)
    (member (codes "k") k
    (member (codes "nodes") (whole 1)
    (member (codes "subs") (wholes (0 ∷ []))
    (member (codes "track") (whole 1)
    others)))))))

-- the listing of a lone node, of this k
abbrev pub lone_listing : ℕ → ListingValue
lone_listing k = record {
  format = 1;
  nodes = 1;
  k = k;
  edges = [];
  homes = 0 ∷ [];
  callers = 0;
  calls = [];
  order = [];
}
