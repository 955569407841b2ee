-- The tables in the code have the names of those in specs/.
use Rattle.std.proofs.Common.{◌≡◌, ℕ, zero, suc, ◌<◌, ◌≤◌, List, [], ◌∷◌, ◌++◌, Bool, true, false, ◌||◌, None, refl, sym, ap, ◌∙◌, map, get_or, length, arith}
use Rattle.std.specs.Prelude.{nat_le, nat_lt}
use Rattle.std.specs.List.{list_all}
use Rattle.std.specs.Str.{bytes_eq}
use Rattle.std.proofs.lemmas.Bool.{or_right}
use Rattle.std.proofs.lemmas.Bool.Decides.{nat_tests}
use Rattle.std.proofs.lemmas.List.{length-map}
use Rattle.std.proofs.lemmas.List.Folds.{list_any-append}
use Rattle.std.proofs.lemmas.Slice.Eq.{bytes_eq-Decides}
use Rattle.redis_routing.specs.Lookup.{has_name, lookup_name}
use Rattle.redis_routing.specs.Upper.{upper}
use Rattle.redis_routing.proofs.Agree.{agree_names}
use Rattle.resp_core.proofs.Cases.{by_test, and_first, and_second}
use Rattle.redis_session.specs.SharedNames.{plain_names, other_names, kind_of_name}
use Rattle.redis_session.specs.declared.kind.CommandKind.{CommandKind}
use Rattle.redis_session.specs.declared.kind.TheConstants.{OTHER_NAMES}
use Rattle.redis_session.specs.declared.plain_names.TheConstants.{NAMES_A_TO_G, NAMES_H_TO_I, NAMES_J_TO_L, NAMES_M_TO_R, NAMES_S_TO_U, NAMES_X_TO_Z}

abbrev names_a_to_g : List (List ℕ)
names_a_to_g = map (λ n. n.now) NAMES_A_TO_G

abbrev names_h_to_i : List (List ℕ)
names_h_to_i = map (λ n. n.now) NAMES_H_TO_I

abbrev names_j_to_l : List (List ℕ)
names_j_to_l = map (λ n. n.now) NAMES_J_TO_L

abbrev names_m_to_r : List (List ℕ)
names_m_to_r = map (λ n. n.now) NAMES_M_TO_R

abbrev names_s_to_u : List (List ℕ)
names_s_to_u = map (λ n. n.now) NAMES_S_TO_U

abbrev names_x_to_z : List (List ℕ)
names_x_to_z = map (λ n. n.now) NAMES_X_TO_Z

abbrev from_s : List (List ℕ)
from_s = names_s_to_u ++ names_x_to_z

abbrev from_m : List (List ℕ)
from_m = names_m_to_r ++ from_s

abbrev from_j : List (List ℕ)
from_j = names_j_to_l ++ from_m

abbrev from_h : List (List ℕ)
from_h = names_h_to_i ++ from_j

-- the names of all tables
abbrev all_names : List (List ℕ)
all_names = names_a_to_g ++ from_h

-- the first letter, or 0
abbrev letter : List ℕ → ℕ
letter name = get_or name 0 0

no_name_from : (cut : ℕ) (names : List (List ℕ)) (n : List ℕ) → list_all (λ m. nat_le cut (letter m)) names ≡ true → letter n < cut → has_name names n ≡ false
no_name_from cut [] n h below = refl
no_name_from cut (m ∷ names) n h below = by_test (bytes_eq m n)
    (λ equal. let same : letter m ≡ letter n = ap letter ((bytes_eq-Decides m n).0 equal) in
    let first = and_first (nat_le cut (letter m)) (list_all (λ m. nat_le cut (letter m)) names) h in
    absurd (grind (arith, nat_tests, first, same)))
    (λ unlike. rw unlike (no_name_from cut names n (and_second (nat_le cut (letter m)) (list_all (λ m. nat_le cut (letter m)) names) h) below))

no_name_below : (cut : ℕ) (names : List (List ℕ)) (n : List ℕ) → list_all (λ m. nat_lt (letter m) cut) names ≡ true → cut ≤ letter n → has_name names n ≡ false
no_name_below cut [] n h above = refl
no_name_below cut (m ∷ names) n h above = by_test (bytes_eq m n)
    (λ equal. let same : letter m ≡ letter n = ap letter ((bytes_eq-Decides m n).0 equal) in
    let first = and_first (nat_lt (letter m) cut) (list_all (λ m. nat_lt (letter m) cut) names) h in
    absurd (grind (arith, nat_tests, first, same)))
    (λ unlike. rw unlike (no_name_below cut names n (and_second (nat_lt (letter m) cut) (list_all (λ m. nat_lt (letter m) cut) names) h) above))

or_none : (b c : Bool) → c ≡ false → (b || c) ≡ b
or_none b c h = grind (arith)

-- a name that begins with a letter before those of the second list
in_first : (cut : ℕ) (xs ys : List (List ℕ)) (n : List ℕ) → list_all (λ m. nat_le cut (letter m)) ys ≡ true → letter n < cut → has_name xs n ≡ has_name (xs ++ ys) n
in_first cut xs ys n h below =
    sym (list_any-append (λ m. bytes_eq m n) xs ys ∙ or_none (has_name xs n) (has_name ys n) (no_name_from cut ys n h below))

-- a name that begins with a letter after those of the first list
in_second : (cut : ℕ) (xs ys : List (List ℕ)) (n : List ℕ) → list_all (λ m. nat_lt (letter m) cut) xs ≡ true → cut ≤ letter n → has_name ys n ≡ has_name (xs ++ ys) n
in_second cut xs ys n h above =
    sym (list_any-append (λ m. bytes_eq m n) xs ys ∙ ap (λ b. b || has_name ys n) (no_name_below cut xs n h above))

has_name-all : (n : List ℕ) → has_name all_names n ≡ has_name plain_names n
unfolding plain_names
has_name-all n = agree_names all_names plain_names refl refl n

module _ (n : List ℕ) where
  pub in_a_to_g : letter n < 72 → has_name names_a_to_g n ≡ has_name plain_names n
  in_a_to_g below = in_first 72 names_a_to_g from_h n refl below ∙ has_name-all n

  after_g : 72 ≤ letter n → has_name from_h n ≡ has_name plain_names n
  after_g above = in_second 72 names_a_to_g from_h n refl above ∙ has_name-all n

  pub in_h_to_i : 72 ≤ letter n → letter n < 74 → has_name names_h_to_i n ≡ has_name plain_names n
  in_h_to_i above below = in_first 74 names_h_to_i from_j n refl below ∙ after_g above

  after_i : 74 ≤ letter n → has_name from_j n ≡ has_name plain_names n
  after_i above = in_second 74 names_h_to_i from_j n refl above ∙ after_g (omega arith)

  pub in_j_to_l : 74 ≤ letter n → letter n < 77 → has_name names_j_to_l n ≡ has_name plain_names n
  in_j_to_l above below = in_first 77 names_j_to_l from_m n refl below ∙ after_i above

  after_l : 77 ≤ letter n → has_name from_m n ≡ has_name plain_names n
  after_l above = in_second 77 names_j_to_l from_m n refl above ∙ after_i (omega arith)

  pub in_m_to_r : 77 ≤ letter n → letter n < 83 → has_name names_m_to_r n ≡ has_name plain_names n
  in_m_to_r above below = in_first 83 names_m_to_r from_s n refl below ∙ after_l above

  after_r : 83 ≤ letter n → has_name from_s n ≡ has_name plain_names n
  after_r above = in_second 83 names_m_to_r from_s n refl above ∙ after_l (omega arith)

  pub in_s_to_u : 83 ≤ letter n → letter n < 88 → has_name names_s_to_u n ≡ has_name plain_names n
  in_s_to_u above below = in_first 88 names_s_to_u names_x_to_z n refl below ∙ after_r above

  pub in_x_to_z : 88 ≤ letter n → has_name names_x_to_z n ≡ has_name plain_names n
  in_x_to_z above = in_second 88 names_s_to_u names_x_to_z n refl above ∙ after_r (omega arith)

module _ {X : Type 0} (key : X → List ℕ) where
  has_name-at : (xs : List X) (n : List ℕ) (i : ℕ) (d : X) → i < length xs → bytes_eq (key (get_or xs i d)) n ≡ true → has_name (map key xs) n ≡ true
  has_name-at [] n i d inside same = absurd (omega arith)
  has_name-at (x ∷ xs) n zero d inside same = rw same refl
  has_name-at (x ∷ xs) n (suc i) d inside same = or_right (bytes_eq (key x) n) (has_name (map key xs) n) (has_name-at xs n i d (omega arith) same)

  -- a test that finds a name at an index
  pub listed_at : (xs : List X) (n : List ℕ) (i : ℕ) (d : X) (b : Bool) → i < length xs → b ≡ bytes_eq (key (get_or xs i d)) n → b ≡ true → has_name (map key xs) n ≡ true
  listed_at xs n i d b inside test held = has_name-at xs n i d inside (sym test ∙ held)

pub no_empty_name : (n : List ℕ) → length n ≡ 0 → false ≡ has_name plain_names n
unfolding plain_names
no_empty_name [] h = refl
no_empty_name (x ∷ n) h = absurd (omega arith)

pub rows-OTHER_NAMES : map (λ row. (row.0.now, row.1)) OTHER_NAMES ≡ other_names
unfolding other_names
rows-OTHER_NAMES = refl

few_bytes : (names : List (List ℕ)) (n : List ℕ) → list_all (λ m. nat_le (length m) 20) names ≡ true → 20 < length n → has_name names n ≡ false
few_bytes [] n short long = refl
few_bytes (m ∷ names) n short long = by_test (bytes_eq m n)
    (λ equal. let same : length m ≡ length n = ap length ((bytes_eq-Decides m n).0 equal) in
    let first = and_first (nat_le (length m) 20) (list_all (λ m. nat_le (length m) 20) names) short in
    absurd (grind (arith, nat_tests, first, same)))
    (λ unlike. rw unlike (few_bytes names n (and_second (nat_le (length m) 20) (list_all (λ m. nat_le (length m) 20) names) short) long))

few_bytes_of_rows : (rows : List (List ℕ × CommandKind)) (n : List ℕ) → list_all (λ r. nat_le (length r.0) 20) rows ≡ true → 20 < length n → lookup_name rows n ≡ None
few_bytes_of_rows [] n short long = refl
few_bytes_of_rows (r ∷ rows) n short long = by_test (bytes_eq r.0 n)
    (λ equal. let same : length r.0 ≡ length n = ap length ((bytes_eq-Decides r.0 n).0 equal) in
    let first = and_first (nat_le (length r.0) 20) (list_all (λ r. nat_le (length r.0) 20) rows) short in
    absurd (grind (arith, nat_tests, first, same)))
    (λ unlike. rw unlike (few_bytes_of_rows rows n (and_second (nat_le (length r.0) 20) (list_all (λ r. nat_le (length r.0) 20) rows) short) long))

no_plain-long : (n : List ℕ) → 20 < length n → has_name plain_names n ≡ false
unfolding plain_names
no_plain-long n long = few_bytes plain_names n refl long

no_other-long : (n : List ℕ) → 20 < length n → lookup_name other_names n ≡ None
unfolding other_names
no_other-long n long = few_bytes_of_rows other_names n refl long

-- a word that is too long is no name
pub kind_of_name-long : (word : List ℕ) → 20 < length word → None ≡ kind_of_name (upper word)
unfolding kind_of_name
kind_of_name-long word long =
    let same : length (upper word) ≡ length word = length-map word _ in
    let more : 20 < length (upper word) = omega arith in
    rw (no_plain-long (upper word) more) (sym (no_other-long (upper word) more))
