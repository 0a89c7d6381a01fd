use Rattle.core_ir.specs.declared.instr.Instr.TheVariants.{AddrF, AddrG, AddrL, GetLocal, PtrConst, SetLocal}
use Rattle.elab_rows.specs.Calls.{arguments}
use Rattle.elab_laws.proofs.GoodAddresses.{assigned_value, loaded_value, lvalue_value_value, pointing_value, struct_value, updated_value}
use Rattle.elab_laws.proofs.GoodBuiltIns.{built_in_value}
use Rattle.elab_laws.proofs.GoodCalls.{arguments_values, call_done, call_value, spawned_value}
use Rattle.elab_laws.proofs.GoodOperators.{and_good, binary_keeps, conditional_good, difference_keeps, indirect_good, indirect_is_done, minus_keeps, number_good, or_good, plus_keeps, plus_pointer_keeps, unary_keeps}
use Rattle.elab_laws.proofs.GoodRows.{converted_value, extended_value, followed_value, single_value}
use Rattle.elab_laws.proofs.Numbers as numbers
use Rattle.elab_laws.proofs.theorems.rows_are_good.Goals as goal
use Rattle.std.proofs.Common.{refl}

pub returns : goal.returns
returns c =
    let laws = c.parts_compose.ensures in
    record {
      singles = record {
        number = number_good laws;
        string = λ g place register slot. single_value laws (λ d. AddrG d g) place register slot tt refl refl (λ r is. is);
        function_name = λ f place register slot. single_value laws (λ d. AddrF d f) place register slot tt refl refl (λ r is. is);
        slot_value = λ s place register slot. single_value laws (λ d. GetLocal d s) place register slot tt refl refl (λ r is. is);
        global_address = λ g place register slot. single_value laws (λ d. AddrG d g) place register slot tt refl refl (λ r is. is);
        local_address = λ v place register slot. single_value laws (λ d. AddrL d v) place register slot tt refl refl (λ r is. is);
      };
      operators = record {
        conversion = converted_value laws;
        binary = binary_keeps laws;
        unary = unary_keeps laws;
        pointer_plus = plus_keeps laws;
        plus_pointer = plus_pointer_keeps laws;
        pointer_minus = minus_keeps laws;
        pointer_difference = difference_keeps laws;
      };
      choices = record {
        both = and_good laws;
        either = or_good laws;
        conditional = conditional_good laws;
      };
      addresses = record {
        member = λ k a place register slot more h. extended_value laws (λ d p. PtrConst d p k) (a place register slot) place register more tt refl refl (λ r is. is) h;
        load = loaded_value laws;
        array = λ element x place register slot more h. pointing_value laws x.root element x.address place register slot more h;
        address = λ x place register slot more h. pointing_value laws x.root x.ty x.address place register slot more h;
        value = lvalue_value_value laws;
        slot_assigned = λ s a place register slot more h. followed_value laws (λ x. SetLocal s x) (a place register slot) place register more tt refl refl (λ r is. is) h;
        assigned = λ x ha v place register slot more hv. assigned_value laws x v place register slot more hv ha;
        updated = updated_value laws;
        struct_assigned = λ parts to ha from place register slot more h. struct_value laws parts to from place register slot more h ha;
      };
      calls = record {
        arguments = arguments_values laws;
        call = λ f cs h place register slot. call_value laws f (arguments cs place register slot) place register (arguments_values laws cs place register slot h);
        void_call = λ f cs h place register slot. call_done laws f (arguments cs place register slot) place register (arguments_values laws cs place register slot h);
        indirect = indirect_good laws;
        void_indirect = indirect_is_done laws;
        spawn = spawned_value laws;
      };
      built_ins = λ b no_spawn l r place register is h. built_in_value laws l r place register is h b no_spawn;
      numbers = record {
        append = numbers.append laws;
        outside = numbers.outside laws;
        last = numbers.last laws;
      };
    }
