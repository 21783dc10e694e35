-- Along the schedule: where it commits an acquire or a release, the board runs that processor's actions up to it. Assumes nothing.
use mathlib.Core.Path.{◌≡◌, refl, sym, ◌∙◌, ap, ap₂, subst}
use mathlib.Core.Logic.{⊎_elim}
use mathlib.Core.Bool.{Bool, true, false, false≢true}
use mathlib.Core.List.{List, [], ◌∷◌}
use mathlib.Core.Option.{Option}
use Prim.Native.Nat.{ℕ, suc, ◌+◌, ◌-◌, ◌≤◌, ◌<◌}
use native.Mathlib.Omega.{arith}
use native.Mathlib.Decide.{dec_lt}
use borrow.Author.Tests.{eqb-true}
use Rattle.words.specs.Small.{is_none}
use Rattle.words.proofs.Bools.{decide, or_cases, or_left, or_right, fails, cond-false}
use Rattle.cases.specs.declared.Case.{Case}
use Rattle.runs.proofs.Walk.{Walk, stop, go}
use Rattle.rules.specs.Kinds.{acquiring, releasing, syncs, held_by}
use Rattle.rules.specs.State.{State, Action, kind_of, input_of}
use Rattle.rules.specs.Issue.{issued}
use Rattle.rules.specs.Commit.{barred, committed}
use Rattle.rules.specs.Step.{Step, issue, commit, neither, after}
use Rattle.rules.specs.Womm.{womm}
use Rattle.rules.proofs.Accepted.{CanCommit, can_commit, after_issue, after_commit, neither_no}
use Rattle.rules.proofs.Actions.{either, waits-none, waits_proc, issued_old, issued_new, committed_other, committed_self, committed_count}
use Rattle.rules.proofs.Strict.{owner, Done, Freed}
use Rattle.boards.specs.declared.Buffering.TheVariants.{Direct}
use Rattle.boards.specs.Board.{Board}
use Rattle.boards.specs.Run.{ran}
use Rattle.progress.proofs.Rooted.{bare}
use Rattle.sequential.proofs.Kept.{Kept, kept_issue, kept_commit, kept, inputs_kept}
use Rattle.sequential.proofs.Items.{not-held}
use Rattle.sequential.proofs.Steady.{Steady, steady_step}
use Rattle.sequential.proofs.Settled.{before_cases, settled}
use Rattle.sequential.proofs.Mirror.{Raceless, Has, Mirror, further, further_own, further_other, has_more, has_cases}
use Rattle.sequential.proofs.Next.{Next}
use Rattle.sequential.proofs.Run.{held_after, run_mirror}
use Rattle.sequential.proofs.Stretch.{Rest, Open, run_first, stretch}
use Rattle.sequential.proofs.Last.{rest}

-- acquires and releases commit in program order
sync_waits : (k q : ℕ) (b : Bool) → syncs k ≡ true → syncs q ≡ true → held_by k q b ≡ true
unfolding held_by
sync_waits k q b h g = ⊎_elim (λ a. acquire (eqb-true k 6 a)) (λ r. rw (eqb-true k 7 r)) (or_cases (acquiring k) (releasing k) h)
  where
    acquire : k ≡ 6 → held_by k q b ≡ true
    acquire e = rw (e, g)

-- the board and the state s of the schedule: who holds what, and which acquires and releases have run
pub record At (c : Case) (f s : State) (n : ℕ → ℕ) (b : Board) : Type 0 where
  pub mirror : Mirror c f s.holders n b
  pub few : (p : ℕ) → n p ≤ f.count
  pub done : (j : ℕ) → j < f.count → syncs (kind_of (f.actions j)) ≡ true → Has f n j → Done s j
  pub has : (j : ℕ) → j < f.count → syncs (kind_of (f.actions j)) ≡ true → Done s j → Has f n j

-- a commit at s, from which the schedule leads on to f
module _ (c : Case) (f : State) (R : Raceless c f) (s : State) (g : Kept s f) (p y e : ℕ) (T : CanCommit c s p y e) where
  abbrev z : State
  z = committed c s p y e

  same : {A : Type 0} (F : Action → A) (j : ℕ) → j < s.count → F (bare (f.actions j)) ≡ F (bare (s.actions j))
  same F j l = ap F (g.same j l)

  there : y < f.count
  there = omega (arith, T.there, g.more)

  mine : owner f y ≡ p
  mine = same (λ a. a.proc) y T.there ∙ waits_proc p (s.actions y) T.waits

  queued : is_none (s.actions y).result ≡ true
  queued = ap is_none (waits-none p (s.actions y) T.waits)

  still : (j : ℕ) → Done s j → Done z j
  still j d = ap is_none ((kept_commit c s p y e T).done j d) ∙ d

  now : (j : ℕ) → (j ≡ y → ⊥) → Done z j → Done s j
  now j n d = sym (ap (λ (a : Action). is_none a.result) (committed_other c s p y e j n)) ∙ d

  -- of neither an acquire nor a release
  plain_at : (n : ℕ → ℕ) (b : Board) → At c f s n b → syncs (kind_of (s.actions y)) ≡ false → At c f z n b
  unfolding committed
  plain_at n b A q =
      record {
        mirror = subst (λ (H : ℕ → Option ℕ). Mirror c f H n b) (sym (cond-false _ _ _ q)) A.mirror;
        few = A.few;
        done = λ j l x h. still j (A.done j l x h);
        has = λ j l x d. A.has j l x (now j (λ i. false≢true (sym q ∙ sym (same (λ a. syncs (kind_of a)) y T.there) ∙ ap (λ (k : ℕ). syncs (kind_of (f.actions k))) (sym i) ∙ x)) d);
      }

  module _ (us : List Step) (w : Walk (womm c) (committed c s p y e) us f) (Z : Steady (committed c s p y e)) (n : ℕ → ℕ) (b : Board) (A : At c f s n b) (q : syncs (kind_of (s.actions y)) ≡ true) where
    gz : Kept z f
    gz = kept c w Z.unset

    synced : syncs (kind_of (f.actions y)) ≡ true
    synced = same (λ a. syncs (kind_of a)) y T.there ∙ q

    late : n p ≤ y
    late = elim (dec_lt y (n p)) [ yes h ↦ absurd (false≢true (sym (A.done y there synced (let x : n (owner f y) ≡ n p = ap n mine in omega (arith, x))) ∙ queued)) | no h ↦ omega arith ]

    -- earlier acquires and releases of the processor are committed
    earlier : (j : ℕ) → j < y → owner f j ≡ p → syncs (kind_of (f.actions j)) ≡ true → Done s j
    earlier j l o x =
        let lj : j < s.count = omega (arith, T.there) in
        not-held c s p y e j T l (sym (same (λ a. a.proc) j lj) ∙ o) (sync_waits (kind_of (s.actions y)) (kind_of (s.actions j)) _ q (sym (same (λ a. syncs (kind_of a)) j lj) ∙ x))

    -- what stands before it, or before an earlier action of its processor, has run
    before : (j : ℕ) → j ≤ y → owner f j ≡ p → (l i : ℕ) → l < c.locs → f.orders l (8 + i) (8 + j) ≡ true → (owner f i ≡ p → ⊥) → Has f n i
    before j g' o l i low h d = ⊎_elim (λ x. absurd (d (owner_z i li ∙ x.0 ∙ sym (owner_z y ly) ∙ mine))) (λ x. freed x.1) (before_cases z Z.strict l i y edge)
      where
        up : f.orders l (8 + i) (8 + y) ≡ true
        up =
            either j y (λ x. subst (λ (k : ℕ). f.orders l (8 + i) (8 + k) ≡ true) x h)
            (λ x. R.transitive l (8 + i) (8 + j) (8 + y) h (R.program l j y low (omega arith) there (o ∙ sym mine) ((R.items.stands l (8 + i) (8 + j) h).1 j refl).1 (or_left (syncs (kind_of (f.actions y))) _ synced)))

        ly : y < z.count
        ly = omega (arith, T.there, committed_count c s p y e)

        edge : z.orders l (8 + i) (8 + y) ≡ true
        edge = settled c w Z y ly (ap (λ (a : Action). is_none a.result) (committed_self c s p y e)) l (8 + i) up

        li : i < z.count
        li = ((Z.items.stands l (8 + i) (8 + y) edge).0 i refl).0

        owner_z : (k : ℕ) → k < z.count → owner f k ≡ owner z k
        owner_z k m = ap (λ (a : Action). a.proc) (gz.same k m)

        freed : Freed z i → Has f n i
        freed F =
            let own : owner f F.at ≡ owner f i = owner_z F.at F.low ∙ F.own ∙ sym (owner_z i li) in
            let other : F.at ≡ y → ⊥ = λ x. d (sym own ∙ ap (owner f) x ∙ mine) in
            let frees : releasing (kind_of (f.actions F.at)) ≡ true = ap (λ (a : Action). releasing (kind_of a)) (gz.same F.at F.low) ∙ F.frees in
            let x : F.at < n (owner f F.at) = A.has F.at (omega (arith, F.low, gz.more)) (or_right (acquiring (kind_of (f.actions F.at))) _ frees) (now F.at other F.done) in
            let v : n (owner f F.at) ≡ n (owner f i) = ap n own in
            omega (arith, x, v, F.late)

    opens : (j : ℕ) → n p ≤ j → j < n p + (y - n p) → owner f j ≡ p → Open c f R n p j
    opens j h l o =
        let lt : j < y = omega (arith, late) in
        record {
          plain = fails false (syncs (kind_of (f.actions j))) (λ x. let v : j < n (owner f j) = A.has j (omega (arith, there)) x (earlier j lt o x) in let u : n (owner f j) ≡ n p = ap n o in absurd (omega (arith, v, u))) refl;
          others = before j (omega arith) o;
        }

    -- after the stretch up to it
    module _ (m : ℕ → ℕ) (d : Board) (M : Mirror c f s.holders m d) (own : m p ≡ y) (other : (r : ℕ) → (r ≡ p → ⊥) → m r ≡ n r) where
      has_on : (i : ℕ) → Has f n i → Has f m i
      has_on i h = either (owner f i) p (λ x. let u : n (owner f i) ≡ n p = ap n x in let v : m (owner f i) ≡ m p = ap m x in omega (arith, u, v, own, late)) (λ x. let u = other (owner f i) x in omega (arith, u))

      next : Next c f s.holders m p y
      next =
          record {
            here = own;
            there = there;
            mine = mine;
            others = λ l i low h x. has_on i (before y (omega arith) mine l i low h x);
            free = ap₂ (λ (k : ℕ) (x : ℕ). barred p k (s.holders x)) (same kind_of y T.there) (inputs_kept s f g y T.there T.ready 0) ∙ T.allowed;
          }

      abbrev m' : ℕ → ℕ
      m' = further f m p y own

      holders_same : held_after p (f.actions y) (input_of f (f.actions y) 0) s.holders ≡ z.holders
      unfolding committed
      holders_same = ap₂ (λ (a : Action) (x : ℕ). held_after p a x s.holders) (g.same y T.there) (inputs_kept s f g y T.there T.ready 0)

      sync_at : At c f z m' (ran Direct c d p)
      sync_at =
          record {
            mirror = subst (λ (H : ℕ → Option ℕ). Mirror c f H m' (ran Direct c d p)) holders_same (run_mirror c f R s.holders m d M p y next);
            few = λ r. either r p (λ x. let u : m' r ≡ m' p = ap m' x in let v = further_own f m p y own in omega (arith, u, v, there)) (λ x. let u = further_other f m p y own r x in let v = other r x in let h = A.few r in omega (arith, u, v, h));
            done = λ j l x h. ⊎_elim (λ i. still j (ran_done j l x i)) (λ i. ap (λ (k : ℕ). is_none (z.actions k).result) i.0 ∙ ap (λ (a : Action). is_none a.result) (committed_self c s p y e)) (has_cases f m p y own j h);
            has = λ j l x h. either j y (λ i. subst (Has f m') (sym i) (let u : m' (owner f y) ≡ suc y = ap m' mine ∙ further_own f m p y own in omega (arith, u))) (λ i. has_more f m p y own j (has_on j (A.has j l x (now j i h))));
          }
        where
          ran_done : (j : ℕ) → j < f.count → syncs (kind_of (f.actions j)) ≡ true → Has f m j → Done s j
          ran_done j l x h = either (owner f j) p (λ o. earlier j (let u : m (owner f j) ≡ m p = ap m o in omega (arith, u, own)) o x) (λ o. A.done j l x (let u = other (owner f j) o in omega (arith, u)))

    sync_run : ((m : ℕ → ℕ) (d : Board) → At c f (committed c s p y e) m d → Rest c f m d) → Rest c f n b
    sync_run on =
        stretch c f R s.holders p (y - n p) (n p) n b A.mirror refl (omega (arith, late, there)) opens
        (λ m d M own other.
        let own' : m p ≡ y = omega (arith, own, late) in
        run_first c f R s.holders m d M p y (next m d M own' other) (on (further f m p y own') (ran Direct c d p) (sync_at m d M own' other)))

module _ (c : Case) (f : State) (R : Raceless c f) where
  issue_at : (s : State) (p : ℕ) (n : ℕ → ℕ) (b : Board) → Steady s → At c f s n b → At c f (issued c s p) n b
  unfolding issued
  issue_at s p n b S A =
      record {
        mirror = A.mirror;
        few = A.few;
        done = λ j l x h. let d = A.done j l x h in ap is_none ((kept_issue c s p S.unset).done j d) ∙ d;
        has = λ j l x d.
            A.has j l x
            (either j s.count
            (λ q. absurd (false≢true (sym d ∙ ap (λ (k : ℕ). is_none ((issued c s p).actions k).result) q ∙ ap (λ (a : Action). is_none a.result) (issued_new c s p))))
            (λ q. sym (ap (λ (a : Action). is_none a.result) (issued_old c s p j q)) ∙ d));
      }

  pub along : (ts : List Step) (s : State) → Walk (womm c) s ts f → Steady s → (n : ℕ → ℕ) (b : Board) → At c f s n b → Rest c f n b
  along [] s (stop q) S n b A = rest c f R s.holders c.procs 0 n b (omega arith) A.mirror A.few (λ r l. absurd (omega arith)) (λ j l x. A.has j l x (subst (λ (y : State). Done y j) (sym q) (R.quiet j l)))
  along (issue p ∷ ts) s (go h w) S n b A = along ts (after c s (issue p)) w (steady_step c s (issue p) h S) n b (subst (λ (y : State). At c f y n b) (sym (after_issue c s p)) (issue_at s p n b S A))
  along (commit p k e ∷ ts) s (go h w) S n b A =
      let T : CanCommit c s p k e = can_commit c s p k e h in
      let q = after_commit c s p k e in
      let w' : Walk (womm c) (committed c s p k e) ts f = subst (λ (y : State). Walk (womm c) y ts f) q w in
      let S' : Steady (committed c s p k e) = subst Steady q (steady_step c s (commit p k e) h S) in
      let g : Kept s f = kept c (go {t = commit p k e} h w) S.unset in
      ⊎_elim
      (λ y. sync_run c f R s g p k e T ts w' S' n b A y (λ m z A'. along ts (committed c s p k e) w' S' m z A'))
      (λ y. along ts (committed c s p k e) w' S' n b (plain_at c f R s g p k e T n b A y))
      (decide (syncs (kind_of (s.actions k))))
  along (neither ∷ ts) s (go h w) S n b A = absurd (neither_no c s h)
