-- After the sections of a log each buffer accounts for its effects, and each effect may follow
-- those before it: so the effects are a run of FIFO buffers.
use Rattle.std.proofs.Common.{◌≡◌, ℕ, ◌<◌, Bool, true, false, ◌&&◌, ◌==◌, List, [], ◌∷◌, ◌++◌, length, Option, Some, None, option_map, option_to_list}
use Rattle.std.proofs.{Common.{slice_get, if◌then◌else◌, refl, ap, sym, ◌∙◌, subst, arith}, lemmas.Bool.{and_right, eqb-false, eqb-true, ne_eqb}}
use Rattle.std.proofs.lemmas.{List.length-map, Option.{get_or_from_slice_get, same_Some, slice_get_within}}
use Rattle.event_log.specs.declared.{entries.Entry.Entry, ids.{BufId.BufId, CpuId.CpuId, Tid.Tid, LockId.{LockId, TheVariants.{Pending, Buffer as AtBuffer}}}}
use Rattle.event_log.specs.{Actions.{Action, Take, Try, Give}, History.{same_lock, IsLawful}, Messages.Message, Sections.{Section, sections_in}}
use Rattle.{event_log.proofs.{RunLemmas.items_none, Same.{same_lock_self, same_lock_true}}, thread_blocks.{specs.Queues.same_tid, proofs.Members.same_tid_self}}
use Rattle.{thread_blocks.proofs.Members.same_tid_true, layer_traits.specs.declared.locked.Side.{Side, TheVariants.{Receivers, Senders}}}
use Rattle.layer_traits.specs.{Blocks.{BufferBlocks.may_join, BufferEffects.{MayTakeEffect, contents_of}}, Threads.Places.count_in}
use Rattle.cpu.specs.Table.{Blocks.{Buffer, Block, OfBuffer, OfPending, Name, Enter}, Setups.{SystemConfig, buffer_at_boot}, Edits.{edited, edited_buffer}}
use Rattle.cpu.{specs.{Table.Edits.{line_on, drawn_position}, Wakeups.{Order.block_of, Quiet.AreFew}}, proofs.Wakeups.{Lists.refuted, Ordered.same_buffer}}
use Rattle.cpu.proofs.Wakeups.{InLine.{may_enter, is_out}, BuffersAndThreads.Good, PostsAndVisits.MayComeAt, ReachedStates.{IsFairLog, fair_good}}
use Rattle.cpu.proofs.TableOrder.Effects.{Tally, apart, drawn, effect_at, effect_in, effect_on, effect_placed, effects, enters_for, next_position, repositioned}
use Rattle.cpu.proofs.TableOrder.Effects.{section_step, Steps}

-- a section that enters a line for a thread is the thread's
into_line : (side : Side) (t : Tid) (name : Name) → enters_for side t name ≡ true → name ≡ Enter t side
into_line side t name into = grind (arith, same_tid_true)

same_number : (b d : BufId) → same_lock (AtBuffer b) (AtBuffer d) ≡ true → d ≡ b
same_number b d here = grind (arith, same_lock_true (AtBuffer b) (AtBuffer d) here)

module _ (setup : SystemConfig) where
  -- each buffer accounts for the effects, and each of them may follow those before it
  pub record Kept (past : List (Section Name)) : Type 0 where
    pub tally : (b : BufId) (k : Buffer) → block_of setup (AtBuffer b) past ≡ Some (OfBuffer k)
        → Tally setup.caps b (effects setup past) (drawn setup b past) k
    pub lawful : IsLawful (MayTakeEffect setup.caps) (effects setup past)

  abbrev no_messages : List Message
  no_messages = []

  at_boot : (b : BufId) (o : Option ℕ) → slice_get setup.caps b.0 ≡ o → (k : Buffer) → option_map (λ n. OfBuffer (buffer_at_boot n)) o ≡ Some (OfBuffer k)
      → Tally setup.caps b [] (drawn setup b []) k
  at_boot b None is k opens = absurd (cc opens)
  at_boot b (Some n) is k opens = subst (Tally setup.caps b [] (drawn setup b [])) (same_buffer (buffer_at_boot n) k opens) (record {
    known = slice_get_within setup.caps b.0 n is;
    wide = length-map setup.caps (λ (m : ℕ). no_messages);
    items = items_none setup.caps b.0;
    capacity = get_or_from_slice_get setup.caps b.0 n 0 is;
    closed = refl;
    effects = refl;
    closes = refl;
    sends = refl;
    receives = refl;
  })

  kept_none : Kept []
  kept_none = record {
    tally = λ b k is. at_boot b (slice_get setup.caps b.0) refl k (grind (arith, is));
    lawful = tt;
  }

  module _ (few : AreFew setup) (past : List (Section Name)) (good : Good setup past) (kept : Kept past) (c : CpuId) (name : Name) where
    abbrev after : LockId → List (Section Name)
    after lock = record { cpu = c; lock = lock; edit = name } ∷ past

    elsewhere : (b : BufId) (lock : LockId) → same_lock (AtBuffer b) lock ≡ false → (side : Side) (t : Tid)
        → drawn setup b (after lock) side t ≡ drawn setup b past side t
    elsewhere b lock off side t = grind (arith, off)

    module _ (d : BufId) (may : MayComeAt setup past c (AtBuffer d) name) where
      -- a thread in a line keeps its position
      in_line : (k : Buffer) → block_of setup (AtBuffer d) past ≡ Some (OfBuffer k) → (side : Side) (t : Tid) → 0 < count_in t (line_on side k)
          → drawn setup d (after (AtBuffer d)) side t ≡ drawn setup d past side t
      in_line k is side t some = by_test (enters_for side t name) refl
        where
          by_test : (into : Bool) → enters_for side t name ≡ into → drawn setup d (after (AtBuffer d)) side t ≡ drawn setup d past side t
          by_test true enters =
              absurd (grind
              (arith, some, is_out setup few side d past good c k is t side (subst (MayComeAt setup past c (AtBuffer d)) (into_line side t name enters) may)))
          by_test false not = grind (arith, not, and_right)

      steps_here : (k : Buffer) → block_of setup (AtBuffer d) past ≡ Some (OfBuffer k)
          → Steps setup.caps d (effects setup past) (effect_on c d name (drawn setup d (after (AtBuffer d))) k) (drawn setup d (after (AtBuffer d)))
          (edited_buffer name k)
      steps_here k is =
          section_step (repositioned (kept.tally d k is) (drawn setup d (after (AtBuffer d))) (in_line k is)) c name (λ u at enters. (
            may_enter setup few at d past good c k is u at (subst (MayComeAt setup past c (AtBuffer d)) enters may),
            grind (arith, enters, is, same_lock_self (AtBuffer d), same_tid_self),
          ))

      effect_here : (o : Option Block) → block_of setup (AtBuffer d) past ≡ o
          → ((e : Entry) → effect_in c d name (drawn setup d (after (AtBuffer d))) o ≡ Some e → MayTakeEffect setup.caps (effects setup past) e)
      effect_here (Some (OfBuffer k)) is e effect = (steps_here k is).may e effect
      effect_here o is e effect = absurd (grind (arith, effect))

      tally_here : (b : BufId) (k : Buffer) → block_of setup (AtBuffer b) (after (AtBuffer d)) ≡ Some (OfBuffer k)
          → Tally setup.caps b (effects setup (after (AtBuffer d))) (drawn setup b (after (AtBuffer d))) k
      tally_here b k is = by_test (same_lock (AtBuffer b) (AtBuffer d)) refl is
        where
          by_test : (here : Bool) → same_lock (AtBuffer b) (AtBuffer d) ≡ here
              → (if here then option_map (edited name) (block_of setup (AtBuffer b) past) else block_of setup (AtBuffer b) past) ≡ Some (OfBuffer k)
              → Tally setup.caps b (effects setup (after (AtBuffer d))) (drawn setup b (after (AtBuffer d))) k
          by_test false off there =
              repositioned (apart (kept.tally b k there) (effect_at setup c (AtBuffer d) name past) (λ e effect.
              grind (arith, off, effect_placed c d name (drawn setup d (after (AtBuffer d))) (block_of setup (AtBuffer d) past) e effect)))
              (drawn setup b (after (AtBuffer d))) (λ side t some. elsewhere b (AtBuffer d) off side t)
          by_test true here there =
              let same : d ≡ b = same_number b d here in
              subst (λ (n : BufId). option_map (edited name) (block_of setup (AtBuffer n) past) ≡ Some (OfBuffer k)
              → Tally setup.caps n (effects setup (after (AtBuffer d))) (drawn setup n (after (AtBuffer d))) k) same (by_block
              (block_of setup (AtBuffer d) past) refl) there
            where
              by_block : (o : Option Block) → block_of setup (AtBuffer d) past ≡ o → option_map (edited name) o ≡ Some (OfBuffer k)
                  → Tally setup.caps d
                  (option_to_list (effect_in c d name (drawn setup d (after (AtBuffer d))) (block_of setup (AtBuffer d) past)) ++ effects setup past)
                  (drawn setup d (after (AtBuffer d))) k
              by_block (Some (OfBuffer now)) at edits =
                  rw at (subst (Tally setup.caps d (option_to_list (effect_on c d name (drawn setup d (after (AtBuffer d))) now) ++ effects setup past)
                  (drawn setup d (after (AtBuffer d)))) (same_buffer (edited_buffer name now) k edits) (steps_here now at).tally)
              by_block o at edits = absurd (grind (arith, edits))

      kept_here : Kept (after (AtBuffer d))
      kept_here = record {
        tally = tally_here;
        lawful = added (effect_at setup c (AtBuffer d) name past) (effect_here (block_of setup (AtBuffer d) past) refl);
      }
        where
          added : (o : Option Entry) → ((e : Entry) → o ≡ Some e → MayTakeEffect setup.caps (effects setup past) e)
              → IsLawful (MayTakeEffect setup.caps) (option_to_list o ++ effects setup past)
          added None each = kept.lawful
          added (Some e) each = (each e refl, kept.lawful)

    kept_step : (lock : LockId) → MayComeAt setup past c lock name → Kept (after lock)
    kept_step (AtBuffer d) may = kept_here d may
    kept_step (Pending q) may = record {
      tally = λ b k is. repositioned (kept.tally b k is) (drawn setup b (after (Pending q))) (λ side t some. elsewhere b (Pending q) refl side t);
      lawful = kept.lawful;
    }

  -- after every log
  pub all_kept : AreFew setup → (log : List (Action Name)) → IsFairLog setup log → Kept (sections_in log)
  all_kept few [] fair = kept_none
  all_kept few (Take cpu lock ∷ past) fair = all_kept few past fair.1
  all_kept few (Try cpu lock hit ∷ past) fair = all_kept few past fair.1
  all_kept few (Give cpu lock name ∷ past) fair =
      kept_step few (sections_in past) (fair_good setup past fair.1) (all_kept few past fair.1) cpu name lock fair.0
