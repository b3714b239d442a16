-- A caller's calls: what one call leaves, and what each reply says of it.
use Rattle.std.proofs.Common.{arith, ◌≡◌, ℕ, Bool, List, [], ◌∷◌, sym, ◌∙◌, subst}
use Rattle.event_log.specs.{declared.{entries.{Entry.Entry, Kind.Kind}, ids.{BufId.BufId, CpuId.CpuId}}, Buffers.IsAllowedEffect, History.IsLawful}
use Rattle.{event_log.specs.{Messages.Message, Runs.{Closes, Receives, Sends, group_of}}, layer_traits.specs.declared.calls.Call.TheVariants.{Send, Recv}}
use Rattle.layer_traits.specs.{declared.calls.{Call.TheVariants.Close, Effect.Effect, Reply.Reply}, Blocks.BufferEffects.{MayTakeEffect, entry}}
use Rattle.{layer_traits.specs.Layers.BufferLaw.{reply_to_recv, reply_to_send}, cpu.specs.Cpus.of_cpu, cpu_workers.specs.Callers.{CallerView, CarriesNone}}
use Rattle.cpu_workers.specs.Callers.{HasCalled, HasMadeCall, with_entry}
use Rattle.event_log.specs.declared.entries.Kind.TheVariants as kind
use Rattle.layer_traits.specs.declared.calls.Reply.TheVariants as reply

-- What an allowed effect carries.

carries : (k : Kind) (closed : Bool) (capacity : ℕ) (items : List Message) (value : Message) → IsAllowedEffect k closed capacity items value
    → CarriesNone k value
carries k closed capacity items value allowed = grind arith

-- a CPU's newest effect is one that may occur
pub newest_carries : (caps : List ℕ) (cpu : CpuId) (history : List Entry) (e : Entry) (rest : List Entry) → IsLawful (MayTakeEffect caps) history
    → of_cpu cpu history ≡ e ∷ rest → CarriesNone e.kind e.value
newest_carries caps cpu [] e rest lawful is = absurd (cc is)
newest_carries caps cpu (x ∷ past) e rest lawful is = grind (arith, newest_carries caps cpu past e rest lawful.1, carries x.kind _ _ _ x.value lawful.0.allowed)

-- What a reply says.

made_so : (old new : CallerView) (b : BufId) (f : Effect) (k : Kind) (value : Message) → f.kind ≡ k → f.value ≡ value
    → new ≡ with_entry old (entry old.cpu old.thread f.kind b f.value f.op f.pos) → HasMadeCall old new k b value
made_so old new b f k value kind_is value_is grows = record {
  op = f.op;
  pos = f.pos;
  grows = grows ∙ (λ i. with_entry old (entry old.cpu old.thread (kind_is i) b (value_is i) f.op f.pos));
}

-- a send's kind, by its reply
sent_kind : (k : Kind) → group_of k ≡ Sends → (reply_to_send k ≡ reply.Closed → ⊥) → k ≡ kind.Send
sent_kind k sends not_closed = grind arith

refused_kind : (k : Kind) → group_of k ≡ Sends → reply_to_send k ≡ reply.Closed → k ≡ kind.SendClosed
refused_kind k sends closed = grind arith

-- a receive's kind and message
got_kind : (k : Kind) (value m : Message) → group_of k ≡ Receives → reply_to_recv k value ≡ reply.Got m → (k ≡ kind.Recv) × (value ≡ m)
got_kind k value m receives got = grind arith

none_kind : (k : Kind) (value : Message) → group_of k ≡ Receives → ((m : Message) → reply_to_recv k value ≡ reply.Got m → ⊥) → k ≡ kind.RecvClosed
none_kind k value receives none = grind (arith, none value)

close_kind : (k : Kind) → group_of k ≡ Closes → k ≡ kind.Close
close_kind k closes = grind arith

module _ (old new : CallerView) (b : BufId) where
  pub made_send : (m : Message) (r : Reply) → HasCalled old new (Send b m) r → (r ≡ reply.Closed → ⊥) → HasMadeCall old new kind.Send b m
  made_send m r called not_closed = made_so old new b called.effect kind.Send m
      (sent_kind called.effect.kind called.is.0 (λ closed. not_closed (called.replies ∙ closed))) called.is.1 called.grows

  pub made_send_closed : (m : Message) (r : Reply) → HasCalled old new (Send b m) r → r ≡ reply.Closed → HasMadeCall old new kind.SendClosed b m
  made_send_closed m r called closed = made_so old new b called.effect kind.SendClosed m
      (refused_kind called.effect.kind called.is.0 (sym called.replies ∙ closed)) called.is.1 called.grows

  pub made_receive : (m : Message) (r : Reply) → HasCalled old new (Recv b) r → r ≡ reply.Got m → HasMadeCall old new kind.Recv b m
  made_receive m r called is =
      let k = got_kind called.effect.kind called.effect.value m called.is (sym called.replies ∙ is) in
      made_so old new b called.effect kind.Recv m k.0 k.1 called.grows

  pub got_none : (r : Reply) → HasCalled old new (Recv b) r → ((m : Message) → r ≡ reply.Got m → ⊥) → HasMadeCall old new kind.RecvClosed b (0 ∷ [])
  got_none r called none =
      let k = none_kind called.effect.kind called.effect.value called.is (λ m is. none m (called.replies ∙ is)) in
      made_so old new b called.effect kind.RecvClosed (0 ∷ []) k (subst (λ (x : Kind). CarriesNone x called.effect.value) k called.carries) called.grows

  pub made_close : (r : Reply) → HasCalled old new (Close b) r → HasMadeCall old new kind.Close b (0 ∷ [])
  made_close r called =
      let k = close_kind called.effect.kind called.is in
      made_so old new b called.effect kind.Close (0 ∷ []) k (subst (λ (x : Kind). CarriesNone x called.effect.value) k called.carries) called.grows
