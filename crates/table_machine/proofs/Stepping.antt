-- Each atomic step keeps the invariant, and returns what its law says.
use Rattle.std.proofs.Common.{length-set, ◌≡◌, ◌≢◌, ◌≤◌, ◌==◌, ℕ, ◌+◌, ◌<◌, ◌%◌, ◌^◌, ◌⊎◌, inl, inr, ⊎_elim, Bool, true, false, if◌then◌else◌, List, [], ◌∷◌}
use Rattle.std.proofs.Common.{◌++◌, length, set, Some, IsSome, option_map, slice_index, refl, ap, sym, ◌∙◌, subst, arith, lt_of_lt_of_le, ne_eqb}
use Rattle.atomic_table.specs.Table.{State, step, Act, keeps, takes, gives, stepped, Allows, Splits, Joins, Enters, Valid, carried_after, homes_after}
use Rattle.{atomic_table.proofs.Lists.{set_here, set_else}, event_log.specs.declared.{ids.{TheConstants.CPUS, CpuId.CpuId, LockId.LockId}, events.Event.Event}}
use Rattle.event_log.specs.{declared.events.Event.TheVariants.{Draw, Look, Free}, WordsLog.{IsLegalWords, cpu_of_event, draws, frees, lock_phase, Idle}}
use Rattle.event_log.specs.{WordsLog.{Waiting, Holding}, Actions.{Holds, acts_of, gives as given_times, phase, ticket_index_of}, Sections.block_after}
use Rattle.event_log.proofs.{Exclusion.{is_holding, line_at}, Same.same_lock_self, Tickets.{gives_acts, legal_acts, phase_acts, ticket_at}, Observed.TicketOf}
use Rattle.{event_log.proofs.Observed.phase_of, layer_traits.specs.{declared.edits.Mark.Mark, Protocols.Protocol.{Rules, StaysAllowed, section}}}
use Rattle.layer_traits.{specs.Protocols.{WordsProtocol.{MayCome, edit_of, sections, mark_of}, OneLock.opened}, proofs.OneLockLemmas.event_lock}
use Rattle.layer_traits.proofs.OneLockLemmas.{lock_phase_own, home_after_draw, home_after_miss, home_after_hit, home_after_free, hit_finds, serves_exactly}
use Rattle.{layer_traits.proofs.Seen.{words_legal, sections_allowed, sections-append, others_sections}, table_machine.specs.declared.views.Home.Home}
use Rattle.table_machine.specs.{declared.views.View.View, Kinds.{WordKind, IsWordKind, given_on}, Layout.{rank_of, word_at, words_at_rank}, Views.caught_up}
use Rattle.table_machine.specs.{Views.{mine, Has, IsSince, Sees}, Rule.{home_block, ShowsLock, Shows, TableInv}, Plays.{Moves, Drew, LookedAtWord, Freed, Met}}
use Rattle.table_machine.{specs.Plays.{Entered, MissesTicket, Hits}, proofs.{Logs.{lock_phase_since, inside_keeps, ends_nil}, Finding.rank_below}}
use Rattle.table_machine.proofs.{Seeing.{sees_set, sees_new, sees_join, one_event, owns_viewed, fits_viewed, joined}, Showing.{home_of, shows_step}}
use Rattle.table_machine.proofs.Showing.{within_table, word_written}
use mathlib.Core.Option.{Option as Maybe, none, some}
use lib.ListN.{get_elem?}
use lib.Seq.{set-get_or}

module _ (K : WordKind) {E B O : Type 0} (R : Rules E B O) (n : ℕ) (start : List (LockId × B)) where
  -- the log extends what the seat of one CPU has seen
  since : (s : State (Home E B) (View E B)) (kept : TableInv K R n start s) (id : ℕ) (cpu : CpuId) (history : List (Event (Mark E)))
      → get_elem? s.views id ≡ some (mine start cpu history) → IsSince kept.log history cpu
  since s kept id cpu history at = (kept.sees.coupled id (mine start cpu history) at).cpus cpu (inl refl)

  -- an event of this CPU that may occur, with a write to one word and slots that show it, keeps the
  -- invariant
  after_event : IsWordKind K → (s : State (Home E B) (View E B)) (kept : TableInv K R n start s) (id : ℕ) (e : Event (Mark E)) (history : List (Event (Mark E)))
      → get_elem? s.views id ≡ some (mine start (cpu_of_event e) history) → MayCome (R.allowed (opened start)) kept.log e → (word x : ℕ) → word ≤ CPUS
      → (homes : List (Maybe (Home E B))) → length homes ≡ length start
      → ((j : ℕ) → j ≢ rank_of start (event_lock e) → get_elem? homes j ≡ get_elem? s.homes j)
      → ShowsLock K R.edited start (set s.words (word_at (rank_of start (event_lock e)) word) x) homes (e ∷ kept.log) (event_lock e)
      → TableInv K R n start (record {
        words = set s.words (word_at (rank_of start (event_lock e)) word) x;
        homes = homes;
        views = set s.views id (mine start (cpu_of_event e) (e ∷ kept.log));
      })
  after_event law s kept id e history at may word x within homes count same here = record {
    few = kept.few;
    log = e ∷ kept.log;
    legal = (may, kept.legal);
    shows = shows_step K law R.edited start s.words s.homes kept.log kept.shows e may.0 word x within homes count same here;
    sees = sees_set n s.views kept.log kept.sees id (mine start (cpu_of_event e) history) at (e ∷ [])
        (one_event n s.views kept.log kept.sees id (mine start (cpu_of_event e) history) at e (inl (inl refl))) (mine start (cpu_of_event e) (e ∷ kept.log))
        (fits_viewed start (cpu_of_event e ∷ []) (e ∷ kept.log)) (λ c o. o);
    rest = λ c large. (
      ne_eqb (cpu_of_event e).0 c.0 (λ same.
          let below : (cpu_of_event e).0 < n = kept.sees.known id (mine start (cpu_of_event e) history) (cpu_of_event e) at (inl (inl refl)) in omega arith),
      kept.rest c large,
    );
  }

  -- and the CPU's view moves to it
  after_move : (s : State (Home E B) (View E B)) (kept : TableInv K R n start s) (id : ℕ) (e : Event (Mark E)) (history : List (Event (Mark E)))
      → get_elem? s.views id ≡ some (mine start (cpu_of_event e) history) → MayCome (R.allowed (opened start)) kept.log e
      → Moves R (mine start (cpu_of_event e) history) (mine start (cpu_of_event e) (e ∷ kept.log)) e
  after_move s kept id e history at may =
      let now = since s kept id (cpu_of_event e) history at in
      record {
        view = refl;
        adds = record { others = now.more; foreign = λ c same. rw same now.others; is = ap (λ l. e ∷ l) now.is };
        legal = (may, kept.legal);
      }

  pub draws_allowed : IsWordKind K → (slots id : ℕ) (cpu : CpuId) (history : List (Event (Mark E))) (held : List (ℕ × Home E B)) (lock : LockId)
      → IsSome (opened start lock) → lock_phase cpu history ≡ Idle
      → Allows (TableInv K R n start) slots id (mine start cpu history, held) (word_at (rank_of start lock) 0) (λ m. (m + 1) % 2 ^ 64)
      (Drew R (step slots (word_at (rank_of start lock) 0) 1 0 none) (mine start cpu history, held))
  draws_allowed law slots id cpu history held lock exists out s kept count at coupled =
      let k : ℕ = rank_of start lock in
      let i : ℕ = word_at k 0 in
      let t : ℕ = slice_index s.words i in
      let x : ℕ = (t + 1) % 2 ^ 64 in
      let e : Event (Mark E) = Draw cpu lock t in
      let outside : lock_phase cpu kept.log ≡ Idle = lock_phase_since cpu kept.log history (since s kept id cpu history at) ∙ out in
      let below : cpu.0 < n = kept.sees.known id (mine start cpu history) cpu at (inl (inl refl)) in
      let old = kept.shows.each lock exists in
      let may : MayCome (R.allowed (opened start)) kept.log e =
      ((lt_of_lt_of_le below kept.few, outside, law.next_is (draws lock kept.log) (frees lock kept.log) (words_at_rank s.words k) old.words_are), tt) in
      let wrote = word_written s.words k 0 x (omega arith) (rw kept.shows.word_length (within_table K law R.edited start lock 0 exists (omega arith))) in (
        mine start cpu (e ∷ kept.log),
        keeps,
        tt,
        after_event law s kept id e history at may 0 x (omega arith) s.homes kept.shows.home_length (λ j other. refl) (record {
          home = old.home;
          at = old.at;
          words_are = rw (same_lock_self lock)
              (law.took (draws lock kept.log) (frees lock kept.log) (words_at_rank s.words k) (words_at_rank (set s.words i x) k) old.words_are
              wrote.0 wrote.1);
          is = home_after_draw R.edited (opened start) lock cpu t kept.log outside (home_block old.home) old.is;
        }),
        record { lock = lock; exists = exists; word = refl; moves = after_move s kept id e history at may; held = refl },
      )

  -- a poll of a CPU that waits: in the log it reads how often the lock was freed
  module _ (law : IsWordKind K) (s : State (Home E B) (View E B)) (kept : TableInv K R n start s) (id : ℕ) (cpu : CpuId) (history : List (Event (Mark E)))
      (lock : LockId) (ticket : ℕ) (exists : IsSome (opened start lock)) (at : get_elem? s.views id ≡ some (mine start cpu history))
      (waits : lock_phase cpu history ≡ Waiting lock ticket) where
    abbrev place : ℕ
    place = word_at (rank_of start lock) (K.looks_at ticket)

    abbrev look : Event (Mark E)
    look = Look cpu lock ticket (frees lock kept.log % 2 ^ 64)

    look_may : MayCome (R.allowed (opened start)) kept.log look
    look_may = ((lock_phase_since cpu kept.log history (since s kept id cpu history at) ∙ waits, refl), tt)

    -- what the step leaves, as the call of `load` requests it
    abbrev LookLeaves : Type 0
    LookLeaves = (w : View E B) × (a : Act (Home E B)) × Valid s.homes [] a × TableInv K R n start (stepped s place (slice_index s.words place) id [] w a)
        × LookedAtWord K R (mine start cpu history, []) (slice_index s.words place) (w, carried_after [] a)

    -- the event is in the log, and the CPU has the slots that it took
    look_leaves : (a : Act (Home E B)) → Valid s.homes [] a → length (homes_after s.homes [] a) ≡ length start
        → ((j : ℕ) → j ≢ rank_of start lock → get_elem? (homes_after s.homes [] a) j ≡ get_elem? s.homes j)
        → ShowsLock K R.edited start s.words (homes_after s.homes [] a) (look ∷ kept.log) lock
        → MissesTicket K lock ticket (mine start cpu history, []) (slice_index s.words place) (mine start cpu (look ∷ kept.log), carried_after [] a)
        ⊎ Hits K R lock ticket (mine start cpu history, []) (slice_index s.words place) (mine start cpu (look ∷ kept.log), carried_after [] a) → LookLeaves
    look_leaves a valid count same here finds = (
      mine start cpu (look ∷ kept.log),
      a,
      valid,
      after_event law s kept id look history at look_may (K.looks_at ticket) (slice_index s.words place) (law.looks_within ticket) (homes_after s.homes [] a)
          count same (rw (set-get_or s.words place 0) here),
      record {
        lock = lock;
        ticket = ticket;
        waits = waits;
        read = frees lock kept.log % 2 ^ 64;
        moves = after_move s kept id look history at look_may;
        finds = finds;
      },
    )

    -- the number found determines whether the poll succeeds
    look_ends : (b : Bool) → K.serves ticket (slice_index s.words place) ≡ b → (frees lock kept.log % 2 ^ 64 == ticket) ≡ b → LookLeaves
    look_ends false other misses =
        let old = kept.shows.each lock exists in
        look_leaves keeps tt kept.shows.home_length (λ j away. refl) (record {
          home = old.home;
          at = old.at;
          words_are = old.words_are;
          is = home_after_miss R.edited (opened start) lock cpu ticket (frees lock kept.log % 2 ^ 64) kept.log look_may.0.0 misses (home_block old.home) old.is;
        })
        (inl (record {
          other = other;
          waits = lock_phase_own look kept.log ∙ ap (λ b. if b then Holding lock ticket else Waiting lock ticket) misses;
          held = refl;
        }))
    look_ends true served same =
        let k : ℕ = rank_of start lock in
        let old = kept.shows.each lock exists in
        let found = home_of old.home
        (hit_finds R.edited (opened start) lock cpu ticket (frees lock kept.log % 2 ^ 64) kept.log
        (words_legal (R.allowed (opened start)) (look ∷ kept.log) (look_may, kept.legal)) same (home_block old.home) old.is) in
        look_leaves (takes k found.0) (old.at ∙ ap some found.2) (length-set s.homes k none ∙ kept.shows.home_length)
        (λ j away. set_else s.homes k j none away) (record {
          home = none;
          at = set_here s.homes k none (rw kept.shows.home_length (rank_below start lock exists));
          words_are = old.words_are;
          is = home_after_hit R.edited (opened start) lock cpu ticket (frees lock kept.log % 2 ^ 64) kept.log same;
        })
        (inr (record {
          same = served;
          inside = lock_phase_own look kept.log ∙ ap (λ b. if b then Holding lock ticket else Waiting lock ticket) same;
          home = found.0;
          block = found.1;
          held = refl;
          is = found.3;
          folds = (rw (ap home_block found.2 ∙ found.3) at old.is).1;
        }))

  pub looks_allowed : IsWordKind K → (slots id : ℕ) (cpu : CpuId) (history : List (Event (Mark E))) (lock : LockId) (ticket : ℕ) → IsSome (opened start lock)
      → lock_phase cpu history ≡ Waiting lock ticket
      → Allows (TableInv K R n start) slots id (mine start cpu history, []) (word_at (rank_of start lock) (K.looks_at ticket)) (λ m. m)
      (LookedAtWord K R (mine start cpu history, []))
  looks_allowed law slots id cpu history lock ticket exists waits s kept count at coupled =
      let k : ℕ = rank_of start lock in
      let serves : Bool = K.serves ticket (slice_index s.words (word_at k (K.looks_at ticket))) in
      look_ends law s kept id cpu history lock ticket exists at waits serves refl (sym (serves_exactly kept.log
      (words_legal (R.allowed (opened start)) kept.log kept.legal) cpu lock ticket
      (lock_phase_since cpu kept.log history (since s kept id cpu history at) ∙ waits)
      serves (λ ticket_index. law.hits (draws lock kept.log) (frees lock kept.log) (words_at_rank s.words k) (kept.shows.each lock exists).words_are ticket
      ticket_index)))

  -- the CPU inside a lock has the ticket that is served
  served_ticket : (log : List (Event (Mark E))) → IsLegalWords log → (cpu : CpuId) (lock : LockId) (ticket : ℕ) → lock_phase cpu log ≡ Holding lock ticket
      → ticket ≡ frees lock log % 2 ^ 64
  served_ticket log legal cpu lock ticket inside =
      let acts = legal_acts edit_of log legal in
      let holds : phase cpu (acts_of edit_of log) ≡ Holds lock = phase_acts edit_of cpu log ∙ ap phase_of inside in
      let served : ticket_index_of cpu (acts_of edit_of log) ≡ given_times lock (acts_of edit_of log) =
      (line_at lock (acts_of edit_of log) acts).first cpu (ap (is_holding lock) holds ∙ same_lock_self lock) in
      let has : ticket ≡ ticket_index_of cpu (acts_of edit_of log) % 2 ^ 64 =
      subst (λ s. TicketOf s (ticket_index_of cpu (acts_of edit_of log))) inside (ticket_at edit_of log legal cpu) in
      has ∙ ap (λ n. n % 2 ^ 64) (served ∙ gives_acts edit_of lock log)

  -- a CPU that is inside releases the lock, by a store or by adding 1, as the words require
  pub frees_allowed : IsWordKind K → (slots id : ℕ) (cpu : CpuId) (history : List (Event (Mark E))) (lock : LockId) (ticket : ℕ) (edit : E) (block : B)
      (y : Home E B) → IsSome (opened start lock) → lock_phase cpu history ≡ Holding lock ticket → y.block ≡ Some block → y.edit ≡ Some edit
      → option_map (R.edited edit) (block_after R.edited (opened start) lock (sections history)) ≡ Some block
      → StaysAllowed (R.allowed (opened start)) (sections history) (section cpu lock edit) → (f : ℕ → ℕ) → ((m : ℕ) → f m ≡ given_on (K.stores ticket) m)
      → Allows (TableInv K R n start) slots id (mine start cpu history, (rank_of start lock, y) ∷ []) (word_at (rank_of start lock) (K.gives_at ticket)) f
      (λ _. Freed R (mine start cpu history, (rank_of start lock, y) ∷ []))
  frees_allowed law slots id cpu history lock ticket edit block y exists in_lock has_block has_edit is_edited stays f f_is s kept count at coupled =
      let k : ℕ = rank_of start lock in
      let word : ℕ = K.gives_at ticket in
      let i : ℕ = word_at k word in
      let x : ℕ = f (slice_index s.words i) in
      let e : Event (Mark E) = Free cpu lock (mark_of edit) in
      let now = since s kept id cpu history at in
      let more : List (Event (Mark E)) = now.more in
      let Allowed = R.allowed (opened start) in
      let inside : lock_phase cpu kept.log ≡ Holding lock ticket = lock_phase_since cpu kept.log history now ∙ in_lock in
      let legal_log = words_legal Allowed kept.log kept.legal in
      let sections_are : sections kept.log ≡ sections more ++ sections history = ap sections now.is ∙ sections-append more history in
      let may : MayCome Allowed kept.log e = (
        (ticket, inside),
        rw sections_are (stays (sections more) (others_sections cpu more now.others)
            (rw sections_are at (sections_allowed Allowed kept.log kept.legal))),
      ) in
      let unchanged : block_after R.edited (opened start) lock (sections kept.log) ≡ block_after R.edited (opened start) lock (sections history) =
      ap (λ l. block_after R.edited (opened start) lock (sections l)) now.is
      ∙ inside_keeps R.edited (opened start) cpu lock ticket more history (rw now.is at legal_log) now.others in_lock in
      let old = kept.shows.each lock exists in
      let wrote = word_written s.words k word x (law.gives_within ticket)
      (rw kept.shows.word_length (within_table K law R.edited start lock word exists (law.gives_within ticket))) in (
        mine start cpu (e ∷ kept.log),
        gives,
        tt,
        after_event law s kept id e history at may word x (law.gives_within ticket) (set s.homes k (some y))
            (length-set s.homes k (some y) ∙ kept.shows.home_length) (λ j away. set_else s.homes k j (some y) away) (record {
              home = some y;
              at = set_here s.homes k (some y) (rw kept.shows.home_length (rank_below start lock exists));
              words_are = rw (same_lock_self lock)
                  (law.gave (draws lock kept.log) (frees lock kept.log) (words_at_rank s.words k) (words_at_rank (set s.words i x) k) old.words_are ticket
                  (served_ticket kept.log legal_log cpu lock ticket inside) (wrote.0 ∙ f_is (slice_index s.words i)) wrote.1);
              is = rw has_block (home_after_free R.edited (opened start) lock cpu ticket (mark_of edit) kept.log legal_log inside block
                  (ap (option_map (R.edited edit)) unchanged ∙ is_edited));
            }),
        record {
          lock = lock;
          ticket = ticket;
          inside = in_lock;
          edit = edit;
          home = y;
          slot = k;
          carried = refl;
          is = has_edit;
          moves = after_move s kept id e history at may;
          held = refl;
        },
      )

  pub has_append : (c : CpuId) (a b : List CpuId) → Has c (a ++ b) → Has c b ⊎ Has c a
  has_append c [] b h = inl h
  has_append c (d ∷ a) b (inl h) = inr (inl h)
  has_append c (d ∷ a) b (inr h) = ⊎_elim inl (λ t. inr (inr t)) (has_append c a b h)

  -- a step after which words and slots show the same log keeps the rule
  pub same_log : (s s' : State (Home E B) (View E B)) (kept : TableInv K R n start s) → Shows K R.edited start s'.words s'.homes kept.log
      → Sees n s'.views kept.log → TableInv K R n start s'
  same_log s s' kept shows sees = record { few = kept.few; log = kept.log; legal = kept.legal; shows = shows; sees = sees; rest = kept.rest }

  -- a load by which a seat merges what it received
  pub meets_allowed : (slots id : ℕ) (v : View E B) (held : List (ℕ × Home E B)) → v.start ≡ start
      → Allows (TableInv K R n start) slots id (v, held) 0 (λ m. m) (Met R (step slots 0 0 0 none) (v, held))
  meets_allowed slots id v held started s kept count at coupled =
      let w : View E B = caught_up v.start (v.lent ++ v.cpus) kept.log in (
        w,
        keeps,
        tt,
        same_log s _ kept (rw (set-get_or s.words 0 0) kept.shows)
            (sees_set n s.views kept.log kept.sees id v at [] (λ c away. tt) w (fits_viewed v.start (v.lent ++ v.cpus) kept.log)
            (λ c o. has_append c v.lent v.cpus (owns_viewed v.start (v.lent ++ v.cpus) kept.log c o))),
        record { view = refl; coupled = kept.sees.coupled id v at; legal = rw started kept.legal; held = refl },
      )

  -- a new seat that acts for no CPU
  pub seat_enters : (slots : ℕ) (first : View E B) → first.start ≡ start
      → Enters (TableInv K R n start) slots 0 (λ m w. Entered (step slots 0 0 0 none) (first, []) m (w, []))
  seat_enters slots first started s kept count coupled =
      (caught_up first.start [] [], same_log s _ kept kept.shows (sees_new n s.views kept.log kept.sees first.start [] (ends_nil kept.log)), refl)

  -- notes of what a seat has seen
  pub notes_split : (id : ℕ) (v : View E B) → Splits (TableInv K R n start) id v v (caught_up v.start [] v.history)
  notes_split id v s kept at =
      let coupled = kept.sees.coupled id v at in
      same_log s _ kept kept.shows (sees_new n (set s.views id v) kept.log
      (sees_set n s.views kept.log kept.sees id v at [] (λ c away. tt) v coupled (λ c o. o)) v.start v.history coupled.front)

  pub notes_join : (id : ℕ) (v : View E B) (other : ℕ) (w : View E B) → Joins (TableInv K R n start) id v other w (joined v w) (caught_up [] [] [])
  notes_join id v other w s kept at apart there = same_log s _ kept kept.shows (sees_join n s.views kept.log kept.sees id v at other w apart there)
