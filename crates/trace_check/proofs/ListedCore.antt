-- From the marks of a core to the list of it, and to what a check with that list found.
use Rattle.trace_check.proofs.Cited.{◌≡◌, ℕ, zero, suc, ◌+◌, ◌<◌, ◌≤◌, Bool, true, false, List, [], ◌∷◌, ◌++◌, refl, length, get_or, arith}
use Rattle.trace_check.proofs.Cited.{slice_get_within, ListsMarked, ListsCore, Inference, Verified}
use Rattle.std.proofs.lemmas.List.{length_push}
use Rattle.std.specs.Global.{Vec}
use Rattle.core_walk.specs.Marks.{MarksCore}
use Rattle.core_walk.proofs.MarkedPlaces.{is_marked, is_unmarked}
use Rattle.trace_check.proofs.MarkedPlaces.{listing_none, listing_skip, listing_push}

-- a list of the marked positions before i
record Listed (marks : List Bool) (i : ℕ) : Type 0 where
  pub positions : List ℕ
  pub listing : ListsMarked marks i positions
  pub few : length positions ≤ i

listed_more : (marks : List Bool) (i : ℕ) → i < length marks → Listed marks i → (b : Bool) → get_or marks i false ≡ b → Listed marks (i + 1)
listed_more marks i less w true is = record {
  positions = w.positions ++ i ∷ [];
  listing = listing_push marks i w.positions (is_marked marks i less is) w.listing;
  few = let few = w.few in omega (arith, few, length_push w.positions i);
}
listed_more marks i less w false is = record {
  positions = w.positions;
  listing = listing_skip marks i w.positions (is_unmarked marks i is) w.listing;
  few = let few = w.few in omega arith;
}

listed : (marks : List Bool) (i : ℕ) → i ≤ length marks → Listed marks i
listed marks zero within = record { positions = []; listing = listing_none marks; few = omega arith }
listed marks (suc i) within =
    let more : Listed marks (i + 1) = listed_more marks i (omega arith) (listed marks i (omega arith)) (get_or marks i false) refl in
    let same : i + 1 ≡ suc i = omega arith in
    rw same at more

-- the marked positions are those of the core
pub core_listed : (steps : List Inference) (marks : List Bool) (positions : List ℕ) → MarksCore steps marks
    → ListsMarked marks (length marks) positions → ListsCore steps positions
core_listed steps marks positions m listing = record {
  rises = listing.rises;
  sound = λ k i here. (m.core i).0 (listing.sound k i here).1;
  full = λ i in_core. let h = (m.core i).1 in_core in listing.full i (slice_get_within marks i true h) h;
}

-- a vector with these positions, if there are no more than marks
abbrev listing_of : (marks : Vec Bool) (positions : List ℕ) → length positions ≤ length marks.items → Vec ℕ
listing_of marks positions few = record {
  ptr = marks.ptr;
  len = length positions;
  cap = length positions;
  alloc = marks.alloc;
  items = positions;
  ok = (refl, omega arith);
  small =
      let same = marks.ok.0 in
      let within = marks.ok.1 in
      let small = marks.small in
      omega (arith, same, within, small, few);
}

-- a verdict with this truth and the core
pub record Lists (steps : List Inference) (truth : Bool) : Type 0 where
  pub verified : Verified
  pub core : ListsCore steps verified.core.items
  pub claim : verified.truth ≡ truth

pub lists : (steps : List Inference) (marks : Vec Bool) (truth : Bool) → MarksCore steps marks.items → Lists steps truth
lists steps marks truth m =
    let w = listed marks.items (length marks.items) (omega arith) in record {
      verified = record { truth = truth; core = listing_of marks w.positions w.few };
      core = core_listed steps marks.items w.positions m w.listing;
      claim = refl;
    }
