-- Programs and their bytes: document 01, "Bytes of a program". Definitions only.
use Rattle.std.specs.Prelude.{ℕ, ◌+◌, ◌≤◌, ◌<◌, ◌≡◌, List, [], ◌∷◌, ◌++◌, length, drop}
use Rattle.program.specs.declared.names.Action.{Action}
use Rattle.program.specs.declared.names.Controller.{Controller}

-- a slip's entry, a name and its count; a name that is absent has count 0
pub data Entry : Type 0 where
  entry : ℕ → ℕ → Entry

abbrev pub Slip : Type 0
Slip = List Entry

-- a program may hold departures, and a departure holds a program again
pub data Program : Type 0 where
  end : Program
  act : Action → Program → Program
  split : Program → Program → Program
  repeat : Program → Program
  depart : Controller → Slip → Program → Program

-- the tree in prefix form
unfoldable pub entries : Slip → List ℕ
entries [] = []
entries (entry name count ∷ slip) = name ∷ count ∷ entries slip

unfoldable pub encode : Program → List ℕ
encode end = 0 ∷ []
encode (act a p) = 1 ∷ a.0 ∷ encode p
encode (split p q) = 2 ∷ (encode p ++ encode q)
encode (repeat p) = 3 ∷ encode p
encode (depart c slip p) = 4 ∷ c.0 ∷ length slip ∷ (entries slip ++ encode p)

-- well formed: slip names, any of the 32, rise strictly from low up, and a count is 1 to 255
unfoldable pub Rising : ℕ → Slip → Type 0
Rising low [] = Unit {0}
Rising low (entry name count ∷ slip) = (low ≤ name) × (name < 32) × (1 ≤ count) × (count < 256) × Rising (name + 1) slip

-- well formed: an action is 0 to 15, a controller 16 to 31
unfoldable pub Good : Program → Type 0
Good end = Unit {0}
Good (act a p) = (a.0 < 16) × Good p
Good (split p q) = Good p × Good q
Good (repeat p) = Good p
Good (depart c slip p) = (16 ≤ c.0) × (c.0 < 32) × Rising 0 slip × Good p

-- the bytes xs stand in s from k up to m
pub record Stands (s : List ℕ) (k : ℕ) (xs : List ℕ) (m : ℕ) : Type 0 where
  pub bytes : drop k s ≡ xs ++ drop m s
  pub up : m ≡ k + length xs
