mod Responding
