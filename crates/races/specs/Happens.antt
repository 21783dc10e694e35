-- Document 02, request 10: happens-before, 'defined from the schedule alone'. Assumes nothing.
use Rattle.std.specs.Prelude.{◌≡◌, Bool, true, false, ◌&&◌, ◌||◌, List, [], ◌∷◌, ℕ, ◌<◌, eqb, length, get_or}
use Rattle.words.specs.Small.{any}
use Rattle.rules.specs.Kinds.{acquiring, releasing}
use Rattle.rules.specs.State.{Action, kind_of}
use Rattle.rules.specs.Step.{Step, issue, commit, neither}

-- The processors of the issues, in order: action k is issued by processor number k of these.
abbrev pub issuers : List Step → List ℕ
issuers [] = []
issuers (issue p ∷ ts) = p ∷ issuers ts
issuers (commit p k e ∷ ts) = issuers ts
issuers (neither ∷ ts) = issuers ts

-- The step commits action k.
abbrev pub commits_it : ℕ → Step → Bool
commits_it k (issue p) = false
commits_it k (commit p n e) = eqb n k
commits_it k neither = false

-- The commit of action j comes before that of action k.
abbrev pub in_turn : List Step → ℕ → ℕ → Bool
in_turn [] j k = false
in_turn (t ∷ ts) j k = (commits_it j t && any (commits_it k) ts) || in_turn ts j k

-- 'Program order': j and k are of one processor, and j was issued first.
pub record InProgram (ts : List Step) (j k : ℕ) : Type 0 where
  pub first : j < k
  pub there : k < length (issuers ts)
  pub same : get_or (issuers ts) j 0 ≡ get_or (issuers ts) k 0

-- What a schedule does not say its replay does: A k is action k, with its instruction and, once committed, the location that it acquired or
-- released.
module _ (ts : List Step) (A : ℕ → Action) where
  -- 'Each committed release before a later committed acquire of its location': release j, acquire k.
  pub record HandOver (j k : ℕ) : Type 0 where
    pub frees : releasing (kind_of (A j)) ≡ true
    pub takes : acquiring (kind_of (A k)) ≡ true
    pub location : (A j).result ≡ (A k).result
    pub turn : in_turn ts j k ≡ true

  -- 'Closed transitively.'
  pub data HappensBefore : ℕ → ℕ → Type 0 where
    program : {j k : ℕ} → InProgram ts j k → HappensBefore j k
    hand_over : {j k : ℕ} → HandOver j k → HappensBefore j k
    chain : {i j k : ℕ} → HappensBefore i j → HappensBefore j k → HappensBefore i k
